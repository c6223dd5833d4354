-- The keys of the objects of a log in JSON.
use Rattle.std.specs.Prelude.{ℕ, List, codes}
use Rattle.json_log.specs.declared.key.Key.{Key}
use Rattle.json_log.specs.declared.key.Key.TheVariants as key

-- a key, as its bytes
abbrev pub word_of : Key → List ℕ
word_of key.Hosts = codes "hosts"
word_of key.Events = codes "events"
word_of key.Name = codes "name"
word_of key.Skew = codes "skew"
word_of key.Gap = codes "gap"
word_of key.Latency = codes "latency"
word_of key.Kind = codes "kind"
word_of key.Host = codes "host"
word_of key.Time = codes "time"
word_of key.Clock = codes "clock"
word_of key.Error = codes "error"
word_of key.Later = codes "later"
word_of key.Earlier = codes "earlier"
word_of key.Most = codes "most"
