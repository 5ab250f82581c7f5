-- The first field becomes the length, and all else stays.
use Rattle.std.proofs.Common.{◌∙◌, ◌++◌, ap, drop, take_at}
use Rattle.byteorder.specs.Endian.{little_bytes}
use Rattle.fl_wire.proofs.Listings.{counted, ends}
use Rattle.fl_wire.proofs.listing.end_list.Goals as goal

pub returns-clause-ends : goal.returns-clause-ends
returns-clause-ends c =
    let old = c.args.out.now in
    let same = take_at c.write_u32.new.buf _ old.len (c.write_u32.auto.buf ∙ c.deref_mut.ensures.len) in
    ends c.len-len.result old.items _ (c.len-len.ensures ∙ old.ok.0)
    (same ∙ c.write_u32.ensures ∙ ap (λ xs. little_bytes 4 c.len-len.result ++ drop 4 xs) c.deref_mut.ensures.value)

pub returns-clause-reply : goal.returns-clause-reply
returns-clause-reply c =
    let old = c.args.out.now in
    let same = take_at c.write_u32.new.buf _ old.len (c.write_u32.auto.buf ∙ c.deref_mut.ensures.len) in
    counted c.len-len.result old.items _ (c.len-len.ensures ∙ old.ok.0) c.requires.header c.requires.bounded
    (same ∙ c.write_u32.ensures ∙ ap (λ xs. little_bytes 4 c.len-len.result ++ drop 4 xs) c.deref_mut.ensures.value)
