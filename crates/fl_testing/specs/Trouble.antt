-- Which calls of a writer fail.
use Rattle.std.specs.Prelude.{◌≡◌, ◌≤◌, ℕ, true}
use Rattle.fl_testing.specs.declared.trouble.Trouble.{Trouble}

-- the call behind so many fails: it is none before the first that does, and that one itself if it alone does
abbrev pub Meets : Trouble → ℕ → Type 0
Meets trouble calls = (trouble.after ≤ calls) × (trouble.once ≡ true → calls ≡ trouble.after)
