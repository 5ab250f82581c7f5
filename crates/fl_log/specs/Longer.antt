-- Logs that go on.
use Rattle.std.specs.Prelude.{◌<◌, List, length}
use mathlib.Core.List.{IsPrefix}

-- a log begins with these entries, and goes on
abbrev pub IsLonger : {E : Type 0} → List E → List E → Type 0
IsLonger entries log = IsPrefix entries log × (length entries < length log)
