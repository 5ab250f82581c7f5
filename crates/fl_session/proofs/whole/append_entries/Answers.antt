use Rattle.std.proofs.Common.{◌≡◌, ◌+◌, length, ap, ◌∙◌, arith, length-append}
use Rattle.fl_session.proofs.ListLemmas.{one_more, some_bytes}
use Rattle.fl_session.specs.Inside.Listing.{entry_of}
use Rattle.fl_session.specs.Whole.{entries_behind}
use Rattle.fl_wire.specs.Listing.{dirent_bytes}
use Rattle.fl_session.proofs.whole.append_entries.Goals as goal

pub loop-entry-preserved : goal.loop-entry-preserved
loop-entry-preserved c =
    let old = c.loop-entry.replies in
    let e = entry_of c.in-Some.entry in
    let d = c.args.directory.now in
    let fits = c.append_dirent.ensures.fits.0 c.if-not-append_dirent.false in
    let now = c.append_dirent.ensures.done c.if-not-append_dirent.false in
    let long : length c.append_dirent.new.self ≡ length old + length (dirent_bytes e) =
    ap length now ∙ length-append old (dirent_bytes e) in
    record {
      within = omega (arith, long, fits);
      rest = one_more c.args.most old c.append_dirent.new.self e (entries_behind d c.args.node c.loop-entry.at)
          (entries_behind d c.args.node c.in-Some.entry.cookie) c.in-Some.ensures.some now fits ∙ c.loop-entry.invariant.rest;
    }

pub loop-entry-smaller : goal.loop-entry-smaller
loop-entry-smaller c =
    let old = c.loop-entry.replies in
    let e = entry_of c.in-Some.entry in
    let fits = c.append_dirent.ensures.fits.0 c.if-not-append_dirent.false in
    let long : length c.append_dirent.new.self ≡ length old + length (dirent_bytes e) =
    ap length (c.append_dirent.ensures.done c.if-not-append_dirent.false) ∙ length-append old (dirent_bytes e) in
    omega (arith, long, fits, some_bytes e)
