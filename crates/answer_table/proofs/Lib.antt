mod WorkedCases
