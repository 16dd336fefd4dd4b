-- The limit of a report, once. A proof that needs the number says `unfolding` of its name.
use Rattle.std.specs.Prelude.{ℕ}

-- bytes of a report
unfoldable pub max_report_bytes : ℕ
max_report_bytes = 65536
