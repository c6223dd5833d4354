-- A log without readings admits what it admitted in version 2.
use Rattle.mt_model.specs.VersionTwo.{VersionTwoIsKept}
use Rattle.mt_model.proofs.Unread.{offsets-unread}

pub kept_two : VersionTwoIsKept
kept_two log t none = (
  λ ok. record { count = ok.count; low = ok.low; high = ok.high; rise = ok.rise; message = ok.message; late = ok.late; extra = ok.extra },
  λ ok. record {
    count = ok.count;
    low = ok.low;
    high = ok.high;
    rise = ok.rise;
    message = ok.message;
    late = ok.late;
    extra = ok.extra;
    clocks = offsets-unread log none t;
  },
)
