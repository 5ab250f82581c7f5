-- Bytes appended one piece after another.
use Rattle.std.proofs.Common.{◌≡◌, ℕ, List, ◌++◌, length, refl, ap, ◌∙◌, append_assoc, length-append}
use Rattle.fl_order.specs.declared.told.Attr.{Attr}
use Rattle.fl_wire.specs.Append.{Appends}
use Rattle.fl_wire.specs.Spell.{attr_bytes, entry_bytes, open_bytes, lock_bytes}

-- one piece and then another
pub appended : {old a mid b new : List ℕ} → Appends old a mid → Appends mid b new → Appends old (a ++ b) new
appended {old} {a} {mid} {b} {new} first then =
    record { is = then.is ∙ ap (λ xs. xs ++ b) first.is ∙ append_assoc old a b }

-- how many bytes each part of an answer has
pub length-attr : (a : Attr) → length (attr_bytes a) ≡ 88
unfolding attr_bytes
length-attr a = refl

pub length-entry : (a : Attr) → length (entry_bytes a) ≡ 128
unfolding attr_bytes entry_bytes
length-entry a = refl

pub length-open : (fh : ℕ) → length (open_bytes fh) ≡ 16
unfolding open_bytes
length-open fh = refl

pub length-lock : (start end kind pid : ℕ) → length (lock_bytes start end kind pid) ≡ 24
unfolding lock_bytes
length-lock start end kind pid = refl

pub ruleset part_lengths = (length-attr, length-entry, length-open, length-lock, length-append)
