-- The number of workers that a command line may ask for.
use Rattle.std.specs.Prelude.{◌≡◌, ◌≤◌, true, ⊤}
use Rattle.lockd_cli.specs.declared.options.Asked.{Asked}
use Rattle.lockd_cli.specs.declared.options.Asked.TheVariants.{Serve}
use Rattle.lockd_cli.specs.declared.options.Trace.{Trace}
use Rattle.lockd_cli.specs.declared.options.Trace.TheVariants.{File}
use Rattle.lockd_cli.specs.declared.options.WhenFull.TheVariants.{Refuse}

-- orders are refused while the trace's file can't be written
abbrev pub Refuses : Trace → Type 0
Refuses (File path Refuse) = ⊤
Refuses trace = ⊥

-- a server is asked for 1 to 16 workers, for two at least if one has to refuse orders while another waits, and for one
-- in a whole session
abbrev pub HasWorkers : Asked → Type 0
HasWorkers (Serve socket workers trace rules) =
    (1 ≤ workers) × (workers ≤ 16) × (Refuses trace → 2 ≤ workers) × (rules.whole ≡ true → workers ≡ 1)
HasWorkers asked = ⊤
