use Rattle.std.proofs.Common.{ap, subst, sym, ◌∙◌}
use Rattle.std.specs.Result.{result_ok}
use Rattle.fl_order.specs.Name.{IsName}
use Rattle.fl_words.proofs.WordLemmas.{decoded_name, some_of}
use Rattle.fl_words.proofs.words.decoded_into.Goals as goal

pub returns-in_err-ok : goal.returns-in_err-ok
returns-in_err-ok c = λ name is same e.
    let told = decoded_name c.args.word.now name c.args.room.now c.decode_to_slice.new.out c.decode_to_slice.result e is.are_bytes same
    c.decode_to_slice.ensures.value in
    let clash = sym c.in_err-ok.was ∙ (c.ok.ensures.value ∙ ap result_ok told.0) in
    absurd (cc)

pub returns : goal.returns
returns c = λ name is same e.
    let told = decoded_name c.args.word.now name c.args.room.now c.decode_to_slice.new.out c.decode_to_slice.result e is.are_bytes same
    c.decode_to_slice.ensures.value in
    some_of c.new.result name c.decode_to_slice.new.out (c.new.ensures.found.1 (subst IsName (sym told.1) is)) c.new.ensures.bytes told.1
