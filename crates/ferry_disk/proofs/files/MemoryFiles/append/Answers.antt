use Rattle.std.proofs.Common.{◌≡◌, sym, ◌∙◌, ap, ◌++◌, option_map, unwrap_or, [], if◌then◌else◌}
use Rattle.std.proofs.lemmas.Result.{on_ok_weaker}
use Rattle.std.specs.FinMap.{insert}
use Rattle.ferry_disk.specs.Memory.{files_of}
use Rattle.ferry_disk.specs.Files.{segment_bytes}
use Rattle.ferry_disk.proofs.FilesLemmas.{extended-seen, unchanged-seen, get-seen, on_ok, on_err}
use Rattle.ferry_disk.proofs.files.MemoryFiles.append.Goals as goal

pub returns-in-Some-clause-ok : goal.returns-in-Some-clause-ok
returns-in-Some-clause-ok c =
    let old = c.args.self.now in
    let files = files_of old in
    let stored = c.in-Some.stored.now in
    let extended = c.extend_from_slice.new.self in
    on_ok c.extend_from_slice.result _ (λ ok.
    ap (λ s. record files { segments = s })
    (extended-seen (λ v. v.items) old.segments (c.get_mut.follows.lender extended) c.args.segment stored extended
    c.in-Some.ensures.value (c.get_mut.follows.holds extended) c.args.bytes.now
    (c.extend_from_slice.ensures.items ∙ ap (λ b. if b then stored.items ++ c.args.bytes.now else stored.items) ok)))

pub returns-in-Some-clause-err : goal.returns-in-Some-clause-err
returns-in-Some-clause-err c =
    let old = c.args.self.now in
    let files = files_of old in
    let stored = c.in-Some.stored.now in
    let extended = c.extend_from_slice.new.self in
    on_err c.extend_from_slice.result _ (λ err.
    ap (λ s. record files { segments = s })
    (unchanged-seen (λ v. v.items) old.segments (c.get_mut.follows.lender extended) c.args.segment stored extended
    c.in-Some.ensures.value (c.get_mut.follows.holds extended)
    (c.extend_from_slice.ensures.items ∙ ap (λ b. if b then stored.items ++ c.args.bytes.now else stored.items) err)))

pub returns-clause-ok : goal.returns-clause-ok
returns-clause-ok c =
    let old = c.args.self.now in
    let files = files_of old in
    let none : segment_bytes files c.args.segment ≡ [] =
    ap (λ o. unwrap_or o []) (get-seen (λ v. v.items) old.segments.entries c.args.segment ∙ ap (option_map (λ v. v.items)) (sym c.in_default.ensures.value)) in
    on_ok_weaker c.put.result (λ e.
    e ∙ (ap (λ s. record files { segments = insert (files_of (record old { segments = s })).segments c.args.segment c.in_ok-copy.copy.items })
    c.get_mut.follows.holds-at-none
    ∙ ap (λ b. record files { segments = insert files.segments c.args.segment b })
    (c.in_ok-copy.ensures.items ∙ ap (λ b. b ++ c.args.bytes.now) (sym none)))) c.put.ensures.ok
