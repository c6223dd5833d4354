-- The faults of log files by number.
use Rattle.std.specs.Prelude.{ℕ, Option, Some, None}
use Rattle.log_read.specs.declared.fault.LogFault.{LogFault}
use Rattle.log_read.specs.declared.fault.LogFault.TheVariants as fault

-- the number of a fault; want of memory has 0
abbrev pub number_of : LogFault → ℕ
number_of fault.Memory = 0
number_of (fault.Header place) = 1
number_of (fault.Width place) = 2
number_of (fault.Kind place) = 3
number_of (fault.HostName place) = 4
number_of (fault.DuplicateHost place) = 5
number_of (fault.UnknownHost place) = 6
number_of (fault.Number place) = 7
number_of (fault.Name place) = 8
number_of (fault.DoubleSend place) = 9
number_of (fault.UnmatchedReceive place) = 10
number_of fault.NoEvent = 11
number_of (fault.TooManyHosts place) = 12
number_of (fault.TooManyEvents place) = 13
number_of (fault.DoubleLatency place) = 15
number_of (fault.LatencyRange place) = 16
number_of (fault.TooManyClocks place) = 17
number_of (fault.SameRow place) = 18
number_of (fault.TooManyBounds place) = 19
number_of (fault.NoRow place) = 20

-- the number of the record that a fault is of, from 1; a log without a row has its fault in none
abbrev pub record_of : LogFault → Option ℕ
record_of fault.Memory = None
record_of (fault.Header place) = Some place
record_of (fault.Width place) = Some place
record_of (fault.Kind place) = Some place
record_of (fault.HostName place) = Some place
record_of (fault.DuplicateHost place) = Some place
record_of (fault.UnknownHost place) = Some place
record_of (fault.Number place) = Some place
record_of (fault.Name place) = Some place
record_of (fault.DoubleSend place) = Some place
record_of (fault.UnmatchedReceive place) = Some place
record_of fault.NoEvent = None
record_of (fault.TooManyHosts place) = Some place
record_of (fault.TooManyEvents place) = Some place
record_of (fault.DoubleLatency place) = Some place
record_of (fault.LatencyRange place) = Some place
record_of (fault.TooManyClocks place) = Some place
record_of (fault.SameRow place) = Some place
record_of (fault.TooManyBounds place) = Some place
record_of (fault.NoRow place) = Some place
