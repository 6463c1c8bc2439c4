use Rattle.std.proofs.Common.{◌≡◌, List, ℕ, Vec, Global, length, drop, sym, ◌∙◌, ap, subst, rules}
use Rattle.std.proofs.lemmas.List.{take_at}
use Rattle.std.proofs.lemmas.Result.{IfErr-weaker}
use Rattle.ferry_repo.specs.Lengths.{AreLengths, BreaksPlace}
use Rattle.ferry_repo.proofs.BatchLemmas.{AreOpened}
use Rattle.ferry_repo.proofs.LengthsLemmas.{both_ok, lengths_hold, breaks_one}
use Rattle.ferry_repo.proofs.batch.Batch.lengths.Goals as goal

pub returns-clause-lengths : goal.returns-clause-lengths
returns-clause-lengths c =
    let batch = c.args.self in
    let keys = c.args.keys.now in
    let answers = c.open_each-answers.result in
    let after = c.open_each-answers.new.blobs in
    let ids = batch.ids.items in
    let held : batch.blobs.len ≡ length after = search rules in
    let size : length after ≡ length batch.blobs.items = search rules in
    let whole = take_at after (drop (length after) batch.blobs.items) batch.blobs.len (sym held) in
    let shown : c.as_slice-3.result.now ≡ after = c.as_slice-3.ensures.value ∙ whole in
    let opened = subst (λ (l : List (List ℕ)). AreOpened keys l batch.blobs.items answers after) c.as_slice.ensures.value
    (subst (λ (l : List (Vec ℕ Global)). AreOpened keys c.as_slice.result.now l answers after) c.as_mut_slice.ensures.value
    c.open_each-answers.ensures.opened) in
    both_ok c.lengths_of.result _ _ _
    (λ sizes are count files log has.
    lengths_hold files log keys ids batch.blobs.items after answers opened size has sizes.items (count ∙ ap length shown)
    (subst (λ (l : List (Vec ℕ Global)). AreLengths answers l sizes.items) shown are))
    c.lengths_of.ensures.lengths c.lengths_of.ensures.count

pub returns-clause-refused : goal.returns-clause-refused
returns-clause-refused c =
    let batch = c.args.self in
    let keys = c.args.keys.now in
    let answers = c.open_each-answers.result in
    let after = c.open_each-answers.new.blobs in
    let ids = batch.ids.items in
    let held : batch.blobs.len ≡ length after = search rules in
    let size : length after ≡ length batch.blobs.items = search rules in
    let whole = take_at after (drop (length after) batch.blobs.items) batch.blobs.len (sym held) in
    let shown : c.as_slice-3.result.now ≡ after = c.as_slice-3.ensures.value ∙ whole in
    let opened = subst (λ (l : List (List ℕ)). AreOpened keys l batch.blobs.items answers after) c.as_slice.ensures.value
    (subst (λ (l : List (Vec ℕ Global)). AreOpened keys c.as_slice.result.now l answers after) c.as_mut_slice.ensures.value
    c.open_each-answers.ensures.opened) in
    IfErr-weaker c.lengths_of.result _ _
    (λ fault broken of_files files log has.
    breaks_one files log keys ids batch.blobs.items after answers opened size has fault c.requires.batch.each
    (subst (λ (l : List (List ℕ)). BreaksPlace l answers (length after) fault) c.as_slice-2.ensures.value
    (subst (λ (n : ℕ). BreaksPlace c.as_slice-2.result.now answers n fault) (ap length shown) (broken of_files))))
    c.lengths_of.ensures.refused
