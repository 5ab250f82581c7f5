-- The command that was said, by its name and its rows.
use Rattle.std.proofs.Common.{◌≡◌, List, Option, Some, None, Result, Ok, Err, IfOk, inl}
use Rattle.std.specs.Box.{box_value}
use Rattle.std.specs.Prelude.{option_map}
use Rattle.clap.specs.Words.{Row, Text, found_of, rows_of, subcommand_name_of, subcommand_rows_of}
use Rattle.clap.specs.declared.parser.matches.ArgMatches.{ArgMatches}
use Rattle.clap.specs.declared.parser.matches.ArgMatches.TheViews.{out-ArgMatches, out-SubCommand}
use Rattle.clap.specs.declared.parser.matches.Found.{Found}
use Rattle.lockd_cli.specs.Inside.{Ask, AsksFor, IsSaid, word_of}
use Rattle.lockd_cli.specs.declared.options.Asked.{Asked}

pair_of : (p : Text × List Row) (name : Text) (rows : List Row) → Some name ≡ Some p.0 → Some rows ≡ Some p.1
    → Some p ≡ Some (name, rows)
pair_of (a, b) name rows named has = cc

both_of : {A : Type 0} (f : A → Text × List Row) (o : Option A) (name : Text) (rows : List Row)
    → Some name ≡ option_map (λ b. (f b).0) o → Some rows ≡ option_map (λ (p : Text × List Row). p.1) (option_map f o)
    → option_map f o ≡ Some (name, rows)
both_of f None name rows named has = cc
both_of f (Some b) name rows named has = pair_of (f b) name rows named has

pub is_said : (matches : ArgMatches) (name : Text) (found : Found) → Some name ≡ subcommand_name_of matches
    → Some (rows_of found) ≡ option_map (λ (p : Text × List Row). p.1) (subcommand_rows_of matches)
    → IsSaid matches name found
is_said matches name found = both_of (λ b. (
  (out-SubCommand (box_value b)).name.now,
  rows_of (found_of (out-SubCommand (box_value b)).matches),
)) (out-ArgMatches matches).subcommand name (rows_of found)

pub asked_so : {E : Type 0} (matches : ArgMatches) (name : Text) (found : Found) (r : Result Asked E)
    → IsSaid matches name found → IfOk r (λ it. word_of it ≡ name) → IfOk r (Ask found) → IfOk r (AsksFor matches)
asked_so matches name found (Ok it) said word ask = inl (found, rw word said, ask)
asked_so matches name found (Err e) said word ask = tt

said_under : (o : Option (Text × List Row)) (rows : List Row) → Some rows ≡ option_map (λ (p : Text × List Row). p.1) o
    → (name : Text) × (o ≡ Some (name, rows))
said_under None rows has = absurd (cc has)
said_under (Some (name, own)) rows has = (name, cc)

-- some command was said, if there are rows of one
pub some_said : (matches : ArgMatches) (found : Found)
    → Some (rows_of found) ≡ option_map (λ (p : Text × List Row). p.1) (subcommand_rows_of matches)
    → (name : Text) × IsSaid matches name found
some_said matches found = said_under (subcommand_rows_of matches) (rows_of found)
