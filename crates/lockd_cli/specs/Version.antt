-- What the program says of itself.
use Rattle.std.specs.Prelude.{ℕ, List, [], ◌∷◌, ◌++◌, codes}
use Rattle.lockd_cli.specs.declared.version.TheConstants.{VERSION}

-- the line that says the version: the program's name, a space, and the version
abbrev pub version_line : List ℕ
version_line = codes "lockd " ++ (VERSION.now ++ 10 ∷ [])
