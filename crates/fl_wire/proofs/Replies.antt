-- Each reply is as long as it says itself.
use Rattle.std.proofs.Common.{◌≡◌, ℕ, ◌+◌, ◌<◌, ◌≤◌, ◌^◌, List, [], ◌++◌, length, drop, refl, sym, ap, subst, ◌∙◌}
use Rattle.std.proofs.Common.{arith, append-nil, length-append, Result, Ok, Err}
use Rattle.std.proofs.lemmas.List.{take_at}
use Rattle.byteorder.specs.Endian.{little_from}
use Rattle.byteorder.specs.Numbers.{little_from-take, little_number-reads_back}
use Rattle.fl_order.specs.declared.errno.Errno.{Errno}
use Rattle.fl_order.specs.declared.told.Answer.{Answer}
use Rattle.fl_order.specs.declared.told.Answer.TheVariants.{Done, Entry, Attr, Open, Made, Lock}
use Rattle.fl_order.specs.declared.told.Told.{Told}
use Rattle.fl_wire.proofs.Appending.{length-attr, length-entry, length-open, length-lock}
use Rattle.fl_wire.specs.Init.{init_spelling, agreed_bytes, again_bytes}
use Rattle.fl_wire.specs.Layout.{field, number_at, out_header}
use Rattle.fl_wire.specs.Spell.{header_bytes, answer_bytes, entry_bytes, open_bytes, reply_bytes, spelling_of, minus}
use Rattle.fl_wire.specs.Spell.{statfs_bytes, statfs_spelling, IsReply}
use Rattle.fl_wire.specs.declared.init.InitStep.{InitStep}
use Rattle.fl_wire.specs.declared.init.InitStep.TheVariants.{Refused, Again, Agreed}

-- the length stands in the first four bytes
len-append : (xs ys : List ℕ) → 4 ≤ length xs → field out_header 0 0 (xs ++ ys) ≡ field out_header 0 0 xs
unfolding number_at
len-append xs ys long = sym (little_from-take 0 4 (length xs) (xs ++ ys) long) ∙ ap (little_from 0 4) (take_at xs ys (length xs) refl)

-- a header with the body that it tells of
pub length-header : (body error unique : ℕ) → length (header_bytes body error unique) ≡ 16
unfolding header_bytes
length-header body error unique = refl

len-header : (body error unique : ℕ) → body ≤ 144 → field out_header 0 0 (header_bytes body error unique) ≡ 16 + body
unfolding number_at header_bytes
len-header body error unique few =
    let small : 16 + body < 2 ^ 32 = omega arith in
    little_number-reads_back 4 (16 + body) (drop 4 (header_bytes body error unique)) small

with_body : (body error unique : ℕ) (bytes : List ℕ) → length bytes ≡ body → body ≤ 144 → IsReply (header_bytes body error unique ++ bytes)
with_body body error unique bytes long few =
    let head = length-header body error unique in
    let says = len-append (header_bytes body error unique) bytes (omega (arith, head)) ∙ len-header body error unique few in
    let all = length-append (header_bytes body error unique) bytes in
    record { whole = omega (arith, says, all, head, long); header = omega (arith, all, head); bounded = omega (arith, all, head, long) }

-- no reply with so small a body is longer than that to a CREATE
few_bytes : (body error unique : ℕ) (bytes : List ℕ) → length bytes ≤ 144 → length (header_bytes body error unique ++ bytes) ≤ 160
few_bytes body error unique bytes few =
    omega (arith, length-append (header_bytes body error unique) bytes, length-header body error unique)

without_body : (error unique : ℕ) → IsReply (header_bytes 0 error unique)
without_body error unique = subst IsReply (append-nil (header_bytes 0 error unique)) (with_body 0 error unique [] refl (omega arith))

-- no answer is longer than that of a CREATE
answer_few : (answer : Answer) → length (answer_bytes answer) ≤ 144
answer_few Done = omega arith
answer_few (Entry a) = omega (arith, length-entry a)
answer_few (Attr a) = omega (arith, length-attr a)
answer_few (Open fh) = omega (arith, length-open fh)
answer_few (Made a fh) = omega (arith, length-append (entry_bytes a) (open_bytes fh), length-entry a, length-open fh)
answer_few (Lock start end kind pid) = omega (arith, length-lock start end kind pid)

result_is_reply : (unique : ℕ) (result : Result Answer Errno) → IsReply (reply_bytes unique result)
result_is_reply unique (Ok answer) = with_body (length (answer_bytes answer)) 0 unique (answer_bytes answer) refl (answer_few answer)
result_is_reply unique (Err e) = without_body (minus e) unique

pub told_is_reply : (told : Told) → IsReply (spelling_of told)
told_is_reply told = result_is_reply told.unique told.result

result_few : (unique : ℕ) (result : Result Answer Errno) → length (reply_bytes unique result) ≤ 160
result_few unique (Ok answer) = few_bytes (length (answer_bytes answer)) 0 unique (answer_bytes answer) (answer_few answer)
result_few unique (Err e) = omega (arith, length-header 0 (minus e) unique)

pub told_few : (told : Told) → length (spelling_of told) ≤ 160
told_few told = result_few told.unique told.result

length-again : length again_bytes ≡ 64
unfolding again_bytes
length-again = refl

length-agreed : (max_readahead flags : ℕ) → length (agreed_bytes max_readahead flags) ≡ 64
unfolding agreed_bytes
length-agreed max_readahead flags = refl

pub init_is_reply : (unique : ℕ) (step : InitStep) → IsReply (init_spelling unique step)
init_is_reply unique (Refused e) = without_body (minus e) unique
init_is_reply unique Again = with_body 64 0 unique again_bytes length-again (omega arith)
init_is_reply unique (Agreed max_readahead flags) = with_body 64 0 unique (agreed_bytes max_readahead flags) (length-agreed max_readahead flags) (omega arith)

pub init_few : (unique : ℕ) (step : InitStep) → length (init_spelling unique step) ≤ 160
init_few unique (Refused e) = omega (arith, length-header 0 (minus e) unique)
init_few unique Again = few_bytes 64 0 unique again_bytes (omega (arith, length-again))
init_few unique (Agreed max_readahead flags) = few_bytes 64 0 unique (agreed_bytes max_readahead flags) (omega (arith, length-agreed max_readahead flags))

length-statfs : (files free : ℕ) → length (statfs_bytes files free) ≡ 80
unfolding statfs_bytes
length-statfs files free = refl

pub statfs_is_reply : (unique files free : ℕ) → IsReply (statfs_spelling unique files free)
statfs_is_reply unique files free = with_body 80 0 unique (statfs_bytes files free) (length-statfs files free) (omega arith)

pub statfs_few : (unique files free : ℕ) → length (statfs_spelling unique files free) ≤ 160
statfs_few unique files free = few_bytes 80 0 unique (statfs_bytes files free) (omega (arith, length-statfs files free))
