-- Lemmas on specs/Tagging.antt: archives whose record has no tag, and those of these records that nothing uses any more.
use Rattle.std.proofs.Common.{◌≡◌, ◌⊎◌, inl, inr, ℕ, zero, suc, ◌+◌, ◌<◌, Bool, true, false, cond, List, [], ◌∷◌, ◌++◌, length, take, get_or}
use Rattle.std.proofs.Common.{Option, Some, IfSome, IsSome, filter, map, refl, sym, ◌∙◌, ap, subst, arith}
use Rattle.std.specs.BTreeMap.{IsOrdered, keys}
use Rattle.std.specs.List.{AllByRecursion, flat_map}
use Rattle.std.specs.Str.{bytes_eq}
use Rattle.std.proofs.lemmas.List.{length-map, map-append, take_more}
use Rattle.std.proofs.lemmas.List.Kept.{IsStrictlySortedBy-filter}
use Rattle.std.proofs.lemmas.Slice.Eq.{bytes_eq-Decides}
use Rattle.ferry_check.specs.Report.{ArchiveRead, AreRead, IsRead, ids_of, ids_used, untagged}
use Rattle.ferry_check.specs.Verify.{IsChunk}
use Rattle.ferry_disk.proofs.DeviceLemmas.{told_any, told_with}
use Rattle.ferry_disk.specs.Device.{Told, heard, told_files}
use Rattle.ferry_disk.specs.Files.{Files}
use Rattle.ferry_log.specs.Live.{key_cmp}
use Rattle.ferry_log.specs.declared.place.Place.{Place}
use Rattle.ferry_manifest.specs.Manifest.Writing.{AreIncreasing, archive_names}
use Rattle.ferry_manifest.specs.Record.Text.{ArchiveText, archive_view}
use Rattle.ferry_manifest.specs.declared.manifest.ArchiveRef.{ArchiveRef}
use Rattle.ferry_manifest.specs.declared.record.Archive.{Archive}
use Rattle.ferry_next.proofs.OrderLemmas.{apart, itself, later_above}
use Rattle.ferry_repo.proofs.ArchiveLemmas.{archive_named-here, archive_named-other}
use Rattle.ferry_repo.proofs.ContentLemmas.{one_record}
use Rattle.ferry_repo.specs.Archives.{HoldsRecord, RefusesNamed, RefusesRecord, archive_named}
use Rattle.ferry_repo.specs.Opening.{RepoState}
use Rattle.ferry_repo.specs.declared.fault.RepoFault.{RepoFault}
use Rattle.ferry_refs.proofs.CountLemmas.{adds_then, occurrences-append}
use Rattle.ferry_refs.proofs.GoingLemmas.{among_passes, counted_among, is_kept, kept_is, passes_among}
use Rattle.ferry_refs.proofs.LawLemmas.{one_number, one_reads}
use Rattle.ferry_refs.specs.Refs.{CountsRefs, RefusesRead, count_in, occurrences}
use Rattle.ferry_refs.specs.Steps.{Adds, Tally, goes_by, no_tally}
use Rattle.ferry_refs.specs.TagSteps.{old_view, olds_view, record_ids}
use Rattle.ferry_refs.specs.Tagging.{AreFreed, AreOld, OldRecord, ReadsRecord, has_tag, ids_kept, is_old, none_old, old_ids, old_record}
use Rattle.ferry_refs.specs.declared.counts.Counts.{Counts}
use Rattle.ferry_refs.specs.declared.untagged.Untagged.{Untagged}
use Rattle.ferry_write.proofs.StandLemmas.{all-append}

-- ---- the archive at a place

-- where names increase, the archive at a place is that of its name
pub named_at : (archives : List ArchiveRef) (place : ℕ) (d : ArchiveRef) → AreIncreasing (archive_names archives) → place < length archives
    → archive_named (get_or archives place d).name archives ≡ Some (get_or archives place d)
named_at [] place d inc lt = absurd (omega arith)
named_at (a ∷ others) zero d inc lt = archive_named-here a.name a others (itself a.name)
named_at (a ∷ others) (suc place) d inc lt =
    let name = (get_or others place d).name in
    archive_named-other name a others (apart a.name name (later_above a.name others place d inc (omega arith)))
    ∙ named_at others place d inc.1 (omega arith)

-- ---- records without a tag

-- one more archive
tag_push : (files : Files) (repo : RepoState) (archives : List ArchiveRef) (olds : List OldRecord) (named : ArchiveRef) (archive : ArchiveText)
    → ReadsRecord files repo named archive → archive.tagged ≡ true → AreOld files repo archives olds → AreOld files repo (archives ++ named ∷ []) olds
tag_push files repo _ _ named archive reads tagged none_old = has_tag named archive [] [] reads tagged none_old
tag_push files repo _ olds named archive reads tagged (has_tag n a rest _ r t old) =
    has_tag n a (rest ++ named ∷ []) olds r t (tag_push files repo rest olds named archive reads tagged old)
tag_push files repo _ _ named archive reads tagged (is_old n a rest olds r t old) =
    is_old n a (rest ++ named ∷ []) olds r t (tag_push files repo rest olds named archive reads tagged old)

old_push : (files : Files) (repo : RepoState) (archives : List ArchiveRef) (olds : List OldRecord) (named : ArchiveRef) (archive : ArchiveText)
    → ReadsRecord files repo named archive → archive.tagged ≡ false → AreOld files repo archives olds
    → AreOld files repo (archives ++ named ∷ []) (olds ++ old_record named archive ∷ [])
old_push files repo _ _ named archive reads off none_old = is_old named archive [] [] reads off none_old
old_push files repo _ olds named archive reads off (has_tag n a rest _ r t old) =
    has_tag n a (rest ++ named ∷ []) (olds ++ old_record named archive ∷ []) r t (old_push files repo rest olds named archive reads off old)
old_push files repo _ _ named archive reads off (is_old n a rest olds r t old) =
    is_old n a (rest ++ named ∷ []) (olds ++ old_record named archive ∷ []) r t (old_push files repo rest olds named archive reads off old)

-- what the list of those so far is with one more archive
abbrev pub noted : ArchiveRef → Archive → List Untagged → List Untagged
noted named archive some = cond archive.tagged some (some ++ record { named = named; archive = archive } ∷ [])

note_by : (files : Files) (repo : RepoState) (archives : List ArchiveRef) (some : List Untagged) (named : ArchiveRef) (archive : Archive) (b : Bool)
    → archive.tagged ≡ b → ReadsRecord files repo named (archive_view archive) → AreOld files repo archives (olds_view some)
    → AreOld files repo (archives ++ named ∷ []) (olds_view (cond b some (some ++ record { named = named; archive = archive } ∷ [])))
note_by files repo archives some named archive true tagged reads old =
    tag_push files repo archives (olds_view some) named (archive_view archive) reads tagged old
note_by files repo archives some named archive false tagged reads old =
    subst (AreOld files repo (archives ++ named ∷ [])) (sym (map-append old_view some (record { named = named; archive = archive } ∷ [])))
    (old_push files repo archives (olds_view some) named (archive_view archive) reads tagged old)

-- one more of the archives of a manifest was read
pub old_next : (told later : Option Told) (repo now_repo : RepoState) (place : ℕ) (d : ArchiveRef) (some next : List Untagged) (archive : Archive)
    → heard later ≡ heard told → now_repo ≡ repo → place < length repo.manifest.archives → AreIncreasing (archive_names repo.manifest.archives)
    → IfSome told (λ t. AreOld (told_files t) repo (take place repo.manifest.archives) (olds_view some))
    → IfSome later (λ t. HoldsRecord (told_files t) now_repo.log now_repo.keys (get_or repo.manifest.archives place d).id (archive_view archive))
    → next ≡ noted (get_or repo.manifest.archives place d) archive some
    → IfSome told (λ t. AreOld (told_files t) repo (take (place + 1) repo.manifest.archives) (olds_view next))
old_next told later repo now_repo place d some next archive same same_repo lt increasing old holds is =
    let archives = repo.manifest.archives in
    let named = get_or archives place d in
    told_with told later (λ f. AreOld f repo (take place archives) (olds_view some))
    (λ f. HoldsRecord f now_repo.log now_repo.keys named.id (archive_view archive)) (λ f. AreOld f repo (take (place + 1) archives) (olds_view next)) same
    (λ f so_far record_is.
    subst (λ (l : List ArchiveRef). AreOld f repo l (olds_view next)) (sym (take_more archives place d lt))
    (subst (λ (l : List Untagged). AreOld f repo (take place archives ++ named ∷ []) (olds_view l)) (sym is)
    (note_by f repo (take place archives) some named archive archive.tagged refl
    (record {
      named_is = named_at archives place d increasing lt;
      record_is = subst (λ (r : RepoState). HoldsRecord f r.log r.keys named.id (archive_view archive)) same_repo record_is;
    }) so_far)))
    old holds

-- each of them has what the archives so far have, and the next one has
pub note_all : (P : Untagged → Type 0) (named : ArchiveRef) (archive : Archive) (some next : List Untagged) → AllByRecursion P some
    → P (record { named = named; archive = archive }) → next ≡ noted named archive some → AllByRecursion P next
note_all P named archive some next all one is = subst (AllByRecursion P) (sym is) (by archive.tagged) where
  by : (b : Bool) → AllByRecursion P (cond b some (some ++ record { named = named; archive = archive } ∷ []))
  by true = all
  by false = all-append P some (record { named = named; archive = archive } ∷ []) all (one, tt)

-- ---- how often their ids are used

cons_occur : (id x : List ℕ) (xs : List (List ℕ)) → occurrences id (x ∷ xs) ≡ cond (bytes_eq x id) 1 0 + occurrences id xs
unfolding occurrences
cons_occur id x xs = refl

pub none_occur : (id : List ℕ) → occurrences id [] ≡ 0
unfolding occurrences
none_occur id = refl

-- where nothing was counted
pub records_none : (tally : Tally) → ((id : List ℕ) → tally id ≡ 0) → Adds [] no_tally tally
records_none tally none id = omega (arith, none id, none_occur id)

-- one more record is counted
pub records_more : (a b c : Tally) (untagged : List Untagged) (place : ℕ) (d : Untagged) → place < length untagged → Adds (record_ids (take place untagged)) a b
    → Adds ((get_or untagged place d).named.id ∷ []) b c → Adds (record_ids (take (place + 1) untagged)) a c
records_more a b c untagged place d lt some one =
    let front = take place untagged in
    let last = get_or untagged place d in
    subst (λ (us : List Untagged). Adds (record_ids us) a c) (sym (take_more untagged place d lt))
    (subst (λ (is : List (List ℕ)). Adds is a c) (sym (map-append (λ (u : Untagged). u.named.id) front (last ∷ [])))
    (adds_then a b c (record_ids front) (last.named.id ∷ []) some one))

sum_by : (id : List ℕ) (r : ArchiveRead) (rs : List ArchiveRead) (b : Bool) → r.archive.tagged ≡ b
    → occurrences id (flat_map ids_used rs) ≡ occurrences id (flat_map ids_kept rs) + occurrences id (old_ids rs)
    → occurrences id (flat_map ids_used (r ∷ rs)) ≡ occurrences id (flat_map ids_kept (r ∷ rs)) + occurrences id (old_ids (r ∷ rs))
sum_by id r rs true e rest =
    let used = occurrences-append id (ids_used r) (flat_map ids_used rs) in
    let kept = occurrences-append id (ids_used r) (flat_map ids_kept rs) in
    rw e (omega (arith, used, kept, rest))
sum_by id r rs false e rest =
    let own = r.archive.items ++ flat_map ids_of r.items in
    let used = occurrences-append id (ids_used r) (flat_map ids_used rs) in
    let first = cons_occur id r.id own in
    let kept = occurrences-append id own (flat_map ids_kept rs) in
    let old = cons_occur id r.id (old_ids rs) in
    rw e (omega (arith, used, first, kept, old, rest))

-- an id is used as often as archives go on using it, and as the id of a record without a tag
pub used_sum : (id : List ℕ) (reads : List ArchiveRead)
    → occurrences id (flat_map ids_used reads) ≡ occurrences id (flat_map ids_kept reads) + occurrences id (old_ids reads)
unfolding occurrences
used_sum id [] = refl
used_sum id (r ∷ rs) = sum_by id r rs r.archive.tagged refl (used_sum id rs)

-- ---- what was read of them

module _ (files : Files) (repo : RepoState) where
  -- what is read of an archive is what its record says
  record ReadsSame (named : ArchiveRef) (archive : ArchiveText) (read : ArchiveRead) : Type 0 where
    id : named.id ≡ read.id
    text : archive ≡ read.archive

  reads_same : (named : ArchiveRef) (archive : ArchiveText) (read : ArchiveRead) → ReadsRecord files repo named archive → IsRead files repo named.name read
      → ReadsSame named archive read
  reads_same named archive read reads is =
      let both : Some is.named ≡ Some named = sym is.named_is ∙ reads.named_is in
      let same : is.named ≡ named = cc in
      let held = subst (λ (n : ArchiveRef). HoldsRecord files repo.log repo.keys n.id read.archive) same is.record_is in
      record {
        id = ap (λ (n : ArchiveRef). n.id) (sym same) ∙ sym is.id;
        text = one_record files repo.log repo.keys named.id archive read.archive reads.record_is held;
      }

  tagged_ids : (read : ArchiveRead) (reads : List ArchiveRead) → read.archive.tagged ≡ true → old_ids (read ∷ reads) ≡ old_ids reads
  tagged_ids read reads e = rw e refl

  old_first : (read : ArchiveRead) (reads : List ArchiveRead) → read.archive.tagged ≡ false → old_ids (read ∷ reads) ≡ read.id ∷ old_ids reads
  old_first read reads e = rw e refl

  -- the ids of the records without a tag
  pub same_olds : (archives : List ArchiveRef) (olds : List OldRecord) (reads : List ArchiveRead) → AreOld files repo archives olds
      → AreRead files repo archives reads → map (λ (old : OldRecord). old.named.id) olds ≡ old_ids reads
  same_olds _ _ [] none_old are = refl
  same_olds _ _ (read ∷ reads) none_old are = absurd are
  same_olds _ olds [] (has_tag named archive rest _ r t old) are = absurd are
  same_olds _ olds (read ∷ reads) (has_tag named archive rest _ r t old) are =
      let same = reads_same named archive read r are.0 in
      same_olds rest olds reads old are.1 ∙ sym (tagged_ids read reads (ap (λ (a : ArchiveText). a.tagged) (sym same.text) ∙ t))
  same_olds _ _ [] (is_old named archive rest olds r t old) are = absurd are
  same_olds _ _ (read ∷ reads) (is_old named archive rest olds r t old) are =
      let same = reads_same named archive read r are.0 in
      ap (λ (i : List ℕ). i ∷ map (λ (o : OldRecord). o.named.id) olds) same.id
      ∙ (ap (λ (is : List (List ℕ)). read.id ∷ is) (same_olds rest olds reads old are.1)
      ∙ sym (old_first read reads (ap (λ (a : ArchiveText). a.tagged) (sym same.text) ∙ t)))

  -- there are as many as untagged archives
  pub same_count : (archives : List ArchiveRef) (olds : List OldRecord) (reads : List ArchiveRead) → AreOld files repo archives olds
      → AreRead files repo archives reads → length olds ≡ length (untagged reads)
  same_count archives olds reads old are =
      sym (length-map olds (λ (o : OldRecord). o.named.id))
      ∙ (ap (λ (is : List (List ℕ)). length is) (same_olds archives olds reads old are) ∙ length-map (untagged reads) (λ (r : ArchiveRead). r.id))

  -- ---- records that nothing uses any more

  chunk_of : (read : ArchiveRead) (name : List ℕ) → IsRead files repo name read → IsChunk repo.log read.id
  chunk_of read name is =
      let held = is.record_is.chunk in
      let placed = held.object.has.placed in
      subst (IsChunk repo.log) (sym is.id)
      (record { chunk = held.chunk; live = subst (λ (o : Option Place). IsSome o) (sym placed) refl })

  either_old : (id : List ℕ) (read : ArchiveRead) (reads : List ArchiveRead) (b c : Bool) → read.archive.tagged ≡ b → bytes_eq read.id id ≡ c
      → 0 < occurrences id (old_ids (read ∷ reads)) → (read.id ≡ id) ⊎ (0 < occurrences id (old_ids reads))
  either_old id read reads true c e f some = inr (subst (λ (is : List (List ℕ)). 0 < occurrences id is) (tagged_ids read reads e) some)
  either_old id read reads false true e f some = inl ((bytes_eq-Decides read.id id).0 f)
  either_old id read reads false false e f some =
      let first = ap (occurrences id) (old_first read reads e) in
      let more = cons_occur id read.id (old_ids reads) in
      let none : cond {A = ℕ} (bytes_eq read.id id) 1 0 ≡ 0 = ap (λ (b : Bool). cond {A = ℕ} b 1 0) f in
      inr (omega (arith, some, first, more, none))

  -- each of their ids is that of a chunk
  pub old_chunk : (id : List ℕ) (archives : List ArchiveRef) (reads : List ArchiveRead) → AreRead files repo archives reads
      → 0 < occurrences id (old_ids reads) → IsChunk repo.log id
  unfolding occurrences
  old_chunk id [] [] are some = absurd (omega (arith, some))
  old_chunk id [] (read ∷ reads) are some = absurd are
  old_chunk id (named ∷ archives) [] are some = absurd are
  old_chunk id (named ∷ archives) (read ∷ reads) are some =
      elim (either_old id read reads read.archive.tagged (bytes_eq read.id id) refl refl some) [
        | inl here ↦ subst (IsChunk repo.log) here (chunk_of read named.name are.0)
        | inr later ↦ old_chunk id archives reads are.1 later
      ]

  -- where their ids are counted, and all uses are, those of the keys that pass the test are those that nothing uses any more
  pub are_freed : (all own : Counts) (olds : List OldRecord) → CountsRefs files repo all → AreOld files repo repo.manifest.archives olds
      → ((id : List ℕ) → count_in own id ≡ occurrences id (map (λ (o : OldRecord). o.named.id) olds)) → IsOrdered key_cmp own.counts
      → AreFreed files repo (filter (goes_by repo.log (count_in all) (count_in own)) (keys own.counts))
  are_freed all own olds counts old counted ordered =
      let test = goes_by repo.log (count_in all) (count_in own) in
      let first = counts [] in
      let ids = same_olds repo.manifest.archives olds first.reads old first.are_read in
      record {
        reads = first.reads;
        are_read = first.are_read;
        sorted = IsStrictlySortedBy-filter key_cmp test (keys own.counts) ordered;
        each = λ id.
            let sum = used_sum id first.reads in
            let used : count_in all id ≡ occurrences id (flat_map ids_used first.reads) =
            one_number files repo id _ _ (counts id) (record { reads = first.reads; are_read = first.are_read; count_is = refl }) in
            let mine : count_in own id ≡ occurrences id (old_ids first.reads) = counted id ∙ ap (occurrences id) ids in (
              λ e.
                  let kept = is_kept repo.log (count_in all) (count_in own) id (among_passes test id (keys own.counts) e).1 in
                  let some = kept.some in
                  let alone = kept.alone in
                  record {
                    reads = first.reads;
                    are_read = first.are_read;
                    old = omega (arith, mine, some);
                    unused = omega (arith, sum, used, mine, alone);
                  },
              λ freed.
                  let same = one_reads files repo repo.manifest.archives freed.reads first.reads freed.are_read first.are_read in
                  let old_here : 0 < occurrences id (old_ids first.reads) =
                  subst (λ (rs : List ArchiveRead). 0 < occurrences id (old_ids rs)) same freed.old in
                  let unused : occurrences id (flat_map ids_kept first.reads) ≡ 0 =
                  subst (λ (rs : List ArchiveRead). occurrences id (flat_map ids_kept rs) ≡ 0) same freed.unused in
                  let some : 0 < count_in own id = omega (arith, mine, old_here) in
                  passes_among test id (keys own.counts)
                  (kept_is repo.log (count_in all) (count_in own) id (record {
                    some = some;
                    alone = omega (arith, sum, used, mine, unused);
                    chunk = old_chunk id repo.manifest.archives first.reads first.are_read old_here;
                  }))
                  (counted_among own id some),
            );
      }

-- what a shelf tells of them
pub told_freed : (told later : Option Told) (repo after_repo : RepoState) (all own : Counts) (untagged : List Untagged) (ids : List (List ℕ))
    → heard later ≡ heard told → after_repo ≡ repo → IfSome told (λ t. CountsRefs (told_files t) repo all)
    → IfSome later (λ t. AreOld (told_files t) after_repo after_repo.manifest.archives (olds_view untagged))
    → Adds (record_ids untagged) no_tally (count_in own)
    → IsOrdered key_cmp own.counts → ids ≡ filter (goes_by after_repo.log (count_in all) (count_in own)) (keys own.counts)
    → IfSome told (λ t. AreFreed (told_files t) repo ids)
told_freed told later repo after_repo all own untagged ids same same_repo counts old counted ordered is =
    let here : ids ≡ filter (goes_by repo.log (count_in all) (count_in own)) (keys own.counts) =
    is ∙ ap (λ (r : RepoState). filter (goes_by r.log (count_in all) (count_in own)) (keys own.counts)) same_repo in
    told_with told later (λ f. CountsRefs f repo all) (λ f. AreOld f after_repo after_repo.manifest.archives (olds_view untagged))
    (λ f. AreFreed f repo ids) same
    (λ f all_counted are_old.
    subst (AreFreed f repo) (sym here)
    (are_freed f repo all own (olds_view untagged) all_counted
    (subst (λ (r : RepoState). AreOld f r r.manifest.archives (olds_view untagged)) same_repo are_old)
    (λ id. let count = counted id in let same = ap (occurrences id) (old_ids_viewed untagged) in omega (arith, count, same)) ordered))
    counts old
  where
    old_ids_viewed : (untagged : List Untagged) → record_ids untagged ≡ map (λ (o : OldRecord). o.named.id) (olds_view untagged)
    old_ids_viewed [] = refl
    old_ids_viewed (u ∷ us) = ap (λ (is : List (List ℕ)). u.named.id ∷ is) (old_ids_viewed us)

-- ---- what a shelf tells

-- what was told then is told now
pub told_back : (told later : Option Told) (P : Files → Type 0) → heard later ≡ heard told → IfSome later (λ t. P (told_files t))
    → IfSome told (λ t. P (told_files t))
told_back told later P same p = told_with told later (λ f. Unit {0}) P P same (λ f _ q. q) (told_any told (λ f. Unit {0}) (λ f. tt)) p

-- the record of the archive at a place is refused
pub record_refused : (told later : Option Told) (repo now_repo : RepoState) (place : ℕ) (d : ArchiveRef) (fault : RepoFault) → heard later ≡ heard told
    → now_repo ≡ repo → place < length repo.manifest.archives → AreIncreasing (archive_names repo.manifest.archives)
    → IfSome later (λ t. RefusesRecord (told_files t) now_repo.log now_repo.keys (get_or repo.manifest.archives place d).id fault)
    → IfSome told (λ t. RefusesRead (told_files t) repo (get_or repo.manifest.archives place d).name fault)
record_refused told later repo now_repo place d fault same same_repo lt increasing refused =
    let named = get_or repo.manifest.archives place d in
    told_with told later (λ f. Unit {0}) (λ f. RefusesRecord f now_repo.log now_repo.keys named.id fault) (λ f. RefusesRead f repo named.name fault) same
    (λ f _ r.
    inl (subst (λ (found : Option ArchiveRef). RefusesNamed f repo.log repo.keys found fault)
    (sym (named_at repo.manifest.archives place d increasing lt))
    (subst (λ (s : RepoState). RefusesRecord f s.log s.keys named.id fault) same_repo r)))
    (told_any told (λ f. Unit {0}) (λ f. tt)) refused

-- an id of theirs is that of a record without a tag
holds_by : (files : Files) (repo : RepoState) (id name : List ℕ) (read : ArchiveRead) (reads : List ArchiveRead) (b c : Bool) → read.archive.tagged ≡ b
    → bytes_eq read.id id ≡ c → IsRead files repo name read → 0 < occurrences id (old_ids (read ∷ reads))
    → (0 < occurrences id (old_ids reads) → (old : ArchiveText) × (HoldsRecord files repo.log repo.keys id old × (old.tagged ≡ false)))
    → (old : ArchiveText) × (HoldsRecord files repo.log repo.keys id old × (old.tagged ≡ false))
holds_by files repo id name read reads true c e f is some later =
    later (subst (λ (ids : List (List ℕ)). 0 < occurrences id ids) (tagged_ids files repo read reads e) some)
holds_by files repo id name read reads false true e f is some later =
    let same : is.named.id ≡ id = sym is.id ∙ (bytes_eq-Decides read.id id).0 f in (
      read.archive,
      (subst (λ (i : List ℕ). HoldsRecord files repo.log repo.keys i read.archive) same is.record_is, e),
    )
holds_by files repo id name read reads false false e f is some later =
    let first = ap (occurrences id) (old_first files repo read reads e) in
    let more = cons_occur id read.id (old_ids reads) in
    let none : cond {A = ℕ} (bytes_eq read.id id) 1 0 ≡ 0 = ap (λ (x : Bool). cond {A = ℕ} x 1 0) f in
    later (omega (arith, some, first, more, none))

pub old_holds : (files : Files) (repo : RepoState) (id : List ℕ) (archives : List ArchiveRef) (reads : List ArchiveRead) → AreRead files repo archives reads
    → 0 < occurrences id (old_ids reads) → (old : ArchiveText) × (HoldsRecord files repo.log repo.keys id old × (old.tagged ≡ false))
unfolding occurrences
old_holds files repo id [] [] are some = absurd (omega (arith, some))
old_holds files repo id [] (read ∷ reads) are some = absurd are
old_holds files repo id (named ∷ archives) [] are some = absurd are
old_holds files repo id (named ∷ archives) (read ∷ reads) are some =
    holds_by files repo id named.name read reads read.archive.tagged (bytes_eq read.id id) refl refl are.0 some
    (λ later. old_holds files repo id archives reads are.1 later)

-- where each record has a tag, that of each archive does
tagged_by : (files : Files) (repo : RepoState) (n named : ArchiveRef) (a : ArchiveText) (name : List ℕ) (found : Option ArchiveRef) (b : Bool)
    → bytes_eq n.name name ≡ b → ReadsRecord files repo n a → a.tagged ≡ true → cond b (Some n) found ≡ Some named
    → (found ≡ Some named → (archive : ArchiveText) × (HoldsRecord files repo.log repo.keys named.id archive × (archive.tagged ≡ true)))
    → (archive : ArchiveText) × (HoldsRecord files repo.log repo.keys named.id archive × (archive.tagged ≡ true))
tagged_by files repo n named a name found true e reads tagged is later =
    let same : n ≡ named = cc in
    (a, (subst (λ (m : ArchiveRef). HoldsRecord files repo.log repo.keys m.id a) same reads.record_is, tagged))
tagged_by files repo n named a name found false e reads tagged is later = later is

pub all_tagged : (files : Files) (repo : RepoState) (archives : List ArchiveRef) (olds : List OldRecord) (name : List ℕ) (named : ArchiveRef)
    → olds ≡ [] → AreOld files repo archives olds → archive_named name archives ≡ Some named
    → (archive : ArchiveText) × (HoldsRecord files repo.log repo.keys named.id archive × (archive.tagged ≡ true))
unfolding archive_named
all_tagged files repo _ _ name named none none_old is = absurd (let no : ⊥ = cc in no)
all_tagged files repo _ olds name named none (has_tag n a rest _ r t old) is =
    tagged_by files repo n named a name (archive_named name rest) (bytes_eq n.name name) refl r t is
    (λ found. all_tagged files repo rest olds name named none old found)
all_tagged files repo _ _ name named none (is_old n a rest olds r t old) is = absurd (let no : ⊥ = cc in no)
