-- What the code's tokens, operands and parser are.
use Rattle.std.specs.Prelude.{ℕ, List, [], ◌∷◌, Option, map, reverse}
use Rattle.mt_model.specs.Form.{Form, form_of}
use Rattle.mtl_parse.specs.Tokens.{Infix, U, S, Prefix, F, G, O, H, Token, Open, Close, OpenBracket, CloseBracket, Comma, Dot, Bang, Ampersand, Bar, Arrow, InfixLetter, PrefixLetter, Number, Word, Placed, Lexeme, Found, NoToken, BadNumber, lexeme_at}
use Rattle.mtl_parse.specs.Machine.{Letter, OfOne, OfTwo, Pending, Opened, Negation, Timed, LeftOfAnd, LeftOfOr, LeftOfImplies, Stage, Wanted, HostRead, DotRead, LetterRead, BracketRead, LowRead, CommaRead, HighRead, Read, State, Completed, capped, step_read, tall}
use Rattle.mtl_parse.specs.declared.token.Infix.{Infix as ScannedInfix}
use Rattle.mtl_parse.specs.declared.token.Infix.TheVariants as infix_of
use Rattle.mtl_parse.specs.declared.token.Prefix.{Prefix as ScannedPrefix}
use Rattle.mtl_parse.specs.declared.token.Prefix.TheVariants as prefix_of
use Rattle.mtl_parse.specs.declared.token.Token.{Token as ScannedToken}
use Rattle.mtl_parse.specs.declared.token.Token.TheVariants as token_of
use Rattle.mtl_parse.specs.declared.token.Placed.{Placed as ScannedPlaced}
use Rattle.mtl_parse.specs.declared.token.Lexeme.{Lexeme as ScannedLexeme}
use Rattle.mtl_parse.specs.declared.token.Lexeme.TheVariants as lexeme_of
use Rattle.mtl_parse.specs.declared.operand.Operand.{Operand}
use Rattle.mtl_parse.specs.declared.operand.Operand.TheVariants as operand_of
use Rattle.mtl_parse.specs.declared.pending.Letter.{Letter as ReadLetter}
use Rattle.mtl_parse.specs.declared.pending.Letter.TheVariants as letter_of
use Rattle.mtl_parse.specs.declared.pending.Pending.{Pending as KeptPending}
use Rattle.mtl_parse.specs.declared.pending.Pending.TheVariants as pending_of
use Rattle.mtl_parse.specs.declared.pending.Completed.{Completed as KeptCompleted}
use Rattle.mtl_parse.specs.declared.parser.Stage.{Stage as ReadStage}
use Rattle.mtl_parse.specs.declared.parser.Stage.TheVariants as stage_of
use Rattle.mtl_parse.specs.declared.parser.Parser.{Parser}

-- the letter between two formulas that one of the code is
abbrev pub infix_in : ScannedInfix → Infix
infix_in infix_of.Until = U
infix_in infix_of.Since = S

-- the letter before a formula that one of the code is
abbrev pub prefix_in : ScannedPrefix → Prefix
prefix_in prefix_of.Eventually = F
prefix_in prefix_of.Always = G
prefix_in prefix_of.Once = O
prefix_in prefix_of.Historically = H

-- the token that one of the code is
abbrev pub token_in : ScannedToken → Token
token_in token_of.Open = Open
token_in token_of.Close = Close
token_in token_of.OpenBracket = OpenBracket
token_in token_of.CloseBracket = CloseBracket
token_in token_of.Comma = Comma
token_in token_of.Dot = Dot
token_in token_of.Bang = Bang
token_in token_of.Ampersand = Ampersand
token_in token_of.Bar = Bar
token_in token_of.Arrow = Arrow
token_in (token_of.InfixLetter op) = InfixLetter (infix_in op)
token_in (token_of.PrefixLetter op) = PrefixLetter (prefix_in op)
token_in (token_of.Number value) = Number value
token_in (token_of.Word bytes) = Word bytes.now

-- the same with its byte
abbrev pub placed_in : ScannedPlaced → Placed
placed_in p = record { token = token_in p.token; byte = p.byte }

-- what stands at a byte, as the code has it
abbrev pub lexeme_in : ScannedLexeme → Lexeme
lexeme_in (lexeme_of.Found token more) = Found (token_in token) more
lexeme_in lexeme_of.NoToken = NoToken
lexeme_in lexeme_of.BadNumber = BadNumber

-- what stands at the first of bytes
abbrev pub first_lexeme : List ℕ → Lexeme
first_lexeme [] = NoToken
first_lexeme (b ∷ bs) = lexeme_at b bs

-- the formula that an operand is, where one stands for all that are too high
abbrev pub form_in : Operand → Form
form_in (operand_of.Low tree) = form_of tree
form_in operand_of.TooHigh = tall

-- the letter with its left side
abbrev pub letter_in : ReadLetter → Letter
letter_in (letter_of.OfOne op) = OfOne (prefix_in op)
letter_in (letter_of.OfTwo op left) = OfTwo (infix_in op) (form_in left)

-- what is pending
abbrev pub pending_in : KeptPending → Pending
pending_in pending_of.Opened = Opened
pending_in pending_of.Negation = Negation
pending_in (pending_of.Timed letter interval) = Timed (letter_in letter) interval
pending_in (pending_of.LeftOfAnd left) = LeftOfAnd (form_in left)
pending_in (pending_of.LeftOfOr left) = LeftOfOr (form_in left)
pending_in (pending_of.LeftOfImplies left) = LeftOfImplies (form_in left)

-- the code keeps the innermost last
abbrev pub stack_in : List KeptPending → List Pending
stack_in pending = reverse (map pending_in pending)

-- an operand with what is still pending before it
abbrev pub completed_in : KeptCompleted → Completed
completed_in c = record { stack = stack_in c.stack.items; form = form_in c.operand }

-- what the last tokens were
abbrev pub stage_in : ReadStage → Stage
stage_in stage_of.Wanted = Wanted
stage_in (stage_of.Host host) = HostRead host
stage_in (stage_of.Dot host) = DotRead host
stage_in (stage_of.Letter letter) = LetterRead (letter_in letter)
stage_in (stage_of.Bracket letter) = BracketRead (letter_in letter)
stage_in (stage_of.LowBound letter low) = LowRead (letter_in letter) low
stage_in (stage_of.Comma letter low) = CommaRead (letter_in letter) low
stage_in (stage_of.HighBound letter interval) = HighRead (letter_in letter) interval
stage_in (stage_of.Read operand) = Read (form_in operand)

-- what was read
abbrev pub state_in : Parser → State
state_in parser = record { stack = stack_in parser.stack.items; stage = stage_in parser.stage }

-- what a token after an operand makes of what is pending
abbrev pub read_after : List KeptPending → Operand → ScannedToken → Option State
read_after stack operand token = step_read capped (stack_in stack) (form_in operand) (token_in token)
