-- An entry fits by its length, and stands behind the others.
use Rattle.std.proofs.Common.{◌∙◌, ℕ, List, ◌++◌, length, ap, arith, append_assoc, refl}
use Rattle.std.specs.Prelude.{replicate}
use Rattle.fl_wire.proofs.Appending.{appended}
use Rattle.fl_wire.proofs.Listings.{length-listed}
use Rattle.fl_wire.specs.Append.{Appends}
use Rattle.fl_wire.specs.Listing.{dirent_of, dirent_bytes, dirent_fields, lacking}
use Rattle.fl_wire.proofs.listing.append_dirent.Goals as goal

pub returns-then-len-most-clause-fits : goal.returns-then-len-most-clause-fits
returns-then-len-most-clause-fits c =
    let wide = length-listed (dirent_of c.args.node c.args.cookie c.args.mode c.args.name.now) in
    (λ told. cc told, λ fits. absurd (omega (arith, wide, fits, c.args.out.now.ok.0)))

pub returns-clause-fits : goal.returns-clause-fits
returns-clause-fits c =
    let wide = length-listed (dirent_of c.args.node c.args.cookie c.args.mode c.args.name.now) in
    (λ told. omega (arith, wide, c.args.out.now.ok.0), λ fits. refl)

pub returns-clause-done : goal.returns-clause-done
unfolding dirent_bytes
returns-clause-done c told =
    let e = dirent_of c.args.node c.args.cookie c.args.mode c.args.name.now in
    let zeros : List ℕ = replicate (lacking (length e.name)) 0 in
    let named : Appends c.push_fields.new.out.items e.name c.push_bytes.new.out.items = record { is = c.push_bytes.ensures.items } in
    let all = appended (appended c.push_fields.ensures.items named) c.push_zeros.ensures.items in
    all.is ∙ ap (λ xs. c.args.out.now.items ++ xs) (append_assoc (dirent_fields e) e.name zeros)
