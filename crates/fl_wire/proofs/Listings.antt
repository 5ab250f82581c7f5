-- The reply to a READDIR, from its beginning to its end.
use Rattle.std.proofs.Common.{◌≡◌, ◌∙◌, ℕ, ◌+◌, ◌<◌, ◌≤◌, ◌^◌, List, ◌++◌, length, drop, ap, sym, subst, arith}
use Rattle.std.proofs.Common.{length-append, length-drop}
use Rattle.std.proofs.lemmas.List.{length-replicate}
use Rattle.std.specs.Prelude.{replicate}
use Rattle.byteorder.specs.Endian.{little_bytes}
use Rattle.byteorder.specs.Numbers.{length-bytes_low_first, little_number-reads_back}
use Rattle.fl_wire.proofs.Replies.{length-header}
use Rattle.fl_wire.specs.Layout.{field, number_at, out_header}
use Rattle.fl_wire.specs.Listing.{Dirent, dirent_bytes, lacking, list_spelling}
use Rattle.fl_wire.specs.Spell.{header_bytes, IsReply}

-- an entry's fields have 24 bytes
pub length-listed : (e : Dirent) → length (dirent_bytes e) ≡ 24 + length e.name + lacking (length e.name)
unfolding dirent_bytes
length-listed e =
    let zeros : List ℕ = replicate (lacking (length e.name)) 0 in
    omega (arith, length-append e.name zeros, length-replicate {A = ℕ} (lacking (length e.name)) 0)

-- once the first field is the length, a reply that was begun is the reply
pub ends : (len : ℕ) (old new : List ℕ) → len ≡ length old → new ≡ little_bytes 4 len ++ drop 4 old → (unique : ℕ) (body : List ℕ)
    → old ≡ header_bytes 0 0 unique ++ body → new ≡ list_spelling unique body
unfolding header_bytes
ends len old new long is unique body was =
    let begun : List ℕ = header_bytes 0 0 unique in
    let all : len ≡ 16 + length body = long ∙ ap length was ∙ length-append begun body in
    is ∙ ap (λ n. little_bytes 4 n ++ drop 4 old) all ∙ ap (λ xs. little_bytes 4 (16 + length body) ++ drop 4 xs) was

-- bytes whose first field is their length are a reply
pub counted : (len : ℕ) (old new : List ℕ) → len ≡ length old → 16 ≤ length old → length old ≤ 4112
    → new ≡ little_bytes 4 len ++ drop 4 old → IsReply new
unfolding number_at
counted len old new long header bounded is =
    let small : len < 256 ^ 4 = omega arith in
    let says : field out_header 0 0 (little_bytes 4 len ++ drop 4 old) ≡ len = little_number-reads_back 4 len (drop 4 old) small in
    let all : length (little_bytes 4 len ++ drop 4 old) ≡ len =
    omega (arith, length-append (little_bytes 4 len) (drop 4 old), length-bytes_low_first 0 4 len, length-drop 4 old) in
    subst IsReply (sym is) (record { whole = says ∙ sym all; header = omega (arith, all); bounded = omega (arith, all) })
