use Rattle.std.proofs.Common.{◌≡◌, ◌≤◌, ◌<◌, List, Vec, ℕ, Global, IsOk, length, drop, sym, subst, rules}
use Rattle.std.proofs.lemmas.List.{take_at}
use Rattle.ferry_blob.specs.Batch.{answer_at, bytes_at, id_at}
use Rattle.ferry_repo.specs.Objects.{HoldsChunk}
use Rattle.ferry_repo.proofs.BatchLemmas.{AreOpened, heads, contents_hold}
use Rattle.ferry_repo.proofs.batch.Batch.keep.Goals as goal

pub keep_opened-requires-clause-head : goal.keep_opened-requires-clause-head
keep_opened-requires-clause-head c =
    let batch = c.args.self in
    let answers = c.open_each-answers.result in
    let after = c.open_each-answers.new.blobs in
    let held : batch.blobs.len ≡ length after = search rules in
    let size : length after ≡ length batch.blobs.items = search rules in
    let whole = take_at after (drop (length after) batch.blobs.items) batch.blobs.len (sym held) in
    subst (λ (l : List (Vec ℕ Global)). (k : ℕ) → k < length l → IsOk (answer_at answers k) → 43 ≤ length (bytes_at l k)) (sym whole)
    (heads c.args.keys.now c.as_slice.result.now c.as_mut_slice.result.now after answers c.open_each-answers.ensures.opened
    (subst (λ (l : List (Vec ℕ Global)). length after ≡ length l) (sym c.as_mut_slice.ensures.value) size))

pub returns : goal.returns
returns c =
    let batch = c.args.self in
    let keys = c.args.keys.now in
    let answers = c.open_each-answers.result in
    let after = c.open_each-answers.new.blobs in
    let ids = batch.ids.items in
    let held : batch.blobs.len ≡ length after = search rules in
    let size : length after ≡ length batch.blobs.items = search rules in
    let whole = take_at after (drop (length after) batch.blobs.items) batch.blobs.len (sym held) in
    let opened = subst (λ (l : List (List ℕ)). AreOpened keys l batch.blobs.items answers after) c.as_slice.ensures.value
    (subst (λ (l : List (Vec ℕ Global)). AreOpened keys c.as_slice.result.now l answers after) c.as_mut_slice.ensures.value
    c.open_each-answers.ensures.opened) in
    record {
      holds = λ files log has kept.
          c.keep_opened.ensures.holds files log keys
          (subst (λ (l : List (Vec ℕ Global)). (k : ℕ) → k < length l → IsOk (answer_at answers k)
          → HoldsChunk files log keys (id_at c.as_slice-2.result.now k) (drop 43 (bytes_at l k))) (sym whole)
          (subst (λ (l : List (List ℕ)). (k : ℕ) → k < length after → IsOk (answer_at answers k)
          → HoldsChunk files log keys (id_at l k) (drop 43 (bytes_at after k))) (sym c.as_slice-2.ensures.value)
          (contents_hold files log keys ids batch.blobs.items after answers opened size has)))
          kept;
    }
