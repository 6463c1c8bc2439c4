-- What is there at the end of a copy into a new target that was refused: names that were told, and what is live.
use Rattle.std.proofs.Common.{◌≡◌, ◌≤◌, ◌<◌, ◌+◌, ◌⊎◌, inl, inr, ℕ, zero, suc, true, false, List, [], ◌∷◌, ◌++◌, length, Option, Some, None, Ok}
use Rattle.std.proofs.Common.{IsSome, slice_get, refl, sym, ◌∙◌, ap, subst, arith}
use Rattle.std.proofs.lemmas.List.{append-nil, append_assoc, append_cancel_left}
use Rattle.ferry_base.specs.Limits.{zero_id}
use Rattle.ferry_blob.proofs.BlobLemmas.{opens_no_fault}
use Rattle.ferry_blob.proofs.LawLemmas.{one_content}
use Rattle.ferry_blob.specs.Blob.{OpensTo}
use Rattle.ferry_blob.specs.declared.fault.BlobFault.{BlobFault}
use Rattle.ferry_carry.specs.Carrying.{Origin}
use Rattle.ferry_carry.specs.Grow.{StandsOn}
use Rattle.ferry_carry.specs.Telling.{AreLines, IsReportedOf, KeepsReported, TellsNames}
use Rattle.ferry_disk.specs.Act.{Act, History, Step, applied, files_now, with_act}
use Rattle.ferry_disk.specs.Moments.{EachMoment, Moments}
use Rattle.ferry_gen.specs.Content.{archive_name}
use Rattle.ferry_mac.specs.declared.keys.Keys.{Keys}
use Rattle.ferry_manifest.specs.Manifest.Text.{ManifestText, manifest_of}
use Rattle.ferry_manifest.specs.declared.manifest.ArchiveRef.{ArchiveRef}
use Rattle.ferry_piece.proofs.AmongLemmas.{among_front}
use Rattle.ferry_piece.specs.Gather.{IsAmong}
use Rattle.ferry_piece.specs.Puts.{Addition}
use Rattle.ferry_repo.specs.Archives.{archive_named}
use Rattle.ferry_repo.specs.Opening.{RepoState, repo_view}
use Rattle.ferry_segment.specs.Entry.{LogEntry}
use Rattle.ferry_status.proofs.LeftLemmas.{now_left}
use Rattle.ferry_stops.proofs.EntryLemmas.{one_shown}
use Rattle.ferry_stops.specs.Entries.{Shows}
use Rattle.ferry_stops.specs.Tells.{lines_of}
use Rattle.ferry_store.proofs.StepLemmas.{first_kept, moments_begin, moments_map, moments_then}
use Rattle.ferry_store.specs.Causes.{BreaksLive}
use Rattle.ferry_store.specs.Commit.{accepted_in}
use Rattle.ferry_store.specs.Standing.{HoldsManifest, entries_of, live_in, with_manifest}
use Rattle.ferry_store.specs.Store.{StoreFits}
use Rattle.ferry_store.specs.declared.store.Store.{Store}
use Rattle.ferry_write.proofs.LawLemmas.{fits_now}
use Rattle.ferry_write.specs.Room.{behind}
use Rattle.ferry_write.specs.Script.{AllDone}
use Rattle.ferry_write.specs.Session.{SettlesFirst}
use Rattle.ferry_run_drill.proofs.NameLemmas.{AreBelow, below_next, names_from}
use Rattle.ferry_run_drill.proofs.OpenLemmas.{new_archives, none_live}
use Rattle.ferry_run_drill.specs.Steps.{IsMadeNew}

-- ---- the end of a run

none_each : (h : History) (s : List Step) → EachMoment (λ _. Unit {0}) h s
none_each h [] = tt
none_each h (x ∷ s) = (tt, tt, none_each (with_act x true h) s)

done_moments : (h g : History) → AllDone h g → Moments (λ _. Unit {0}) h g
done_moments h g d = record { steps = d.0; each = none_each h d.0; now_is = inl d.1; last = tt }

files_begun : (h : History) → h.acts ≡ [] → files_now h ≡ h.start
files_begun h e = ap (λ (acts : List Act). applied h.start acts) e

-- repositories with the same secrets whose manifests entries hold have one manifest
one_held : (a b : RepoState) (entries : List LogEntry) → a.keys ≡ b.keys → HoldsManifest a entries → HoldsManifest b entries → a.manifest ≡ b.manifest
one_held a b entries same p q =
    let both : Some p.blob ≡ Some q.blob = sym p.live ∙ q.live in
    let blob : p.blob ≡ q.blob = cc in
    let opens = subst (λ (k : Keys). OpensTo k zero_id p.blob p.content) same p.opens in
    let content = one_content b.keys zero_id q.blob p.content q.content (subst (λ (l : List ℕ). OpensTo b.keys zero_id l p.content) blob opens) q.opens in
    let read : Ok a.manifest ≡ Ok b.manifest =
    sym p.reads ∙ (ap (λ (k : Keys). manifest_of k p.content) same ∙ (ap (manifest_of b.keys) content ∙ q.reads)) in
    cc

-- ---- names

-- a name among those of the drill is that of an archive
pub among_named : (first count : ℕ) (name : List ℕ) → IsAmong (names_from first count) name
    → (place : ℕ) × ((place < count) × (name ≡ archive_name (first + place)))
unfolding names_from
among_named first zero name among = absurd (let got : slice_get [] among.0 ≡ Some name = among.1 in let no : ⊥ = cc in no)
among_named first (suc count) name (zero, is) =
    let both : Some (archive_name first) ≡ Some name = is in
    let same : name ≡ archive_name first = cc in
    let e : first ≡ first + 0 = omega arith in
    (0, (omega arith, same ∙ ap archive_name e))
among_named first (suc count) name (suc place, is) =
    let later = among_named (suc first) count name (place, is) in
    let e : suc first + later.0 ≡ first + suc later.0 = omega arith in
    (suc later.0, (omega (arith, later.1.0), later.1.1 ∙ ap archive_name e))

-- none of those in front of a name is it
pub apart_front : (first count : ℕ) (before done : List (List ℕ)) (name : List ℕ) (rest : List (List ℕ)) → names_from first count ≡ done ++ name ∷ rest
    → first + count ≤ 64 → AreBelow before first → IsAmong (before ++ done) name → ⊥
unfolding names_from
apart_front first zero before [] name rest split most below among = let no : ⊥ = cc in no
apart_front first zero before (d ∷ ds) name rest split most below among = let no : ⊥ = cc in no
apart_front first (suc count) before [] name rest split most below among =
    let same : name ≡ archive_name first = cc in
    let here : IsAmong before (archive_name first) =
    subst (IsAmong before) same (subst (λ (l : List (List ℕ)). IsAmong l name) (append-nil before) among) in
    below first (omega arith) (omega (arith, most)) here
apart_front first (suc count) before (d ∷ ds) name rest split most below among =
    let same : d ≡ archive_name first = cc in
    let later : names_from (suc first) count ≡ ds ++ name ∷ rest = cc in
    let there : IsAmong ((before ++ archive_name first ∷ []) ++ ds) name =
    subst (λ (l : List (List ℕ)). IsAmong l name) (sym (append_assoc before (archive_name first ∷ []) ds))
    (subst (λ (n : List ℕ). IsAmong (before ++ n ∷ ds) name) same among) in
    apart_front (suc first) count (before ++ archive_name first ∷ []) ds name rest later (omega (arith, most)) (below_next before first below) there

-- fronts of equal length are equal
pub one_front : (a b r s : List (List ℕ)) → a ++ r ≡ b ++ s → length a ≡ length b → a ≡ b
one_front [] [] r s split size = refl
one_front [] (b ∷ bs) r s split size = absurd (let no : ⊥ = omega (arith, size) in no)
one_front (a ∷ xs) [] r s split size = absurd (let no : ⊥ = omega (arith, size) in no)
one_front (a ∷ xs) (b ∷ bs) r s split size =
    let first : a ≡ b = cc in
    let later : xs ++ r ≡ bs ++ s = cc in
    let rest = one_front xs bs r s later (let e : length xs ≡ length bs = omega (arith, size) in e) in
    ap (λ (n : List ℕ). n ∷ xs) first ∙ ap (λ (l : List (List ℕ)). b ∷ l) rest

-- as many names are told as there are lines
as_many : (accepted : ManifestText) (before lines names : List (List ℕ)) → AreLines accepted before lines names → length lines ≡ length names
as_many accepted before [] [] are = refl
as_many accepted before [] (n ∷ ns) are = absurd are
as_many accepted before (l ∷ ls) [] are = absurd are
as_many accepted before (l ∷ ls) (n ∷ ns) are = ap suc (as_many accepted (before ++ n ∷ []) ls ns are.1)

-- what is told is told of as many names
pub told_once : (accepted : ManifestText) (h g : History) (a b : List (List ℕ)) → TellsNames accepted a h g → TellsNames accepted b h g → length a ≡ length b
told_once accepted h g a b p q =
    let both : lines_of h.acts ++ p.0 ≡ lines_of h.acts ++ q.0 = sym p.1.0 ∙ q.1.0 in
    let same = append_cancel_left (lines_of h.acts) p.0 q.0 both in
    let sizes = ap (λ (l : List (List ℕ)). length l) same in
    let one = as_many accepted [] p.0 a p.1.1 in
    let two = as_many accepted [] q.0 b q.1.1 in
    sym one ∙ (sizes ∙ two)

none_named : (name : List ℕ) (archives : List ArchiveRef) → archives ≡ [] → archive_named name archives ≡ None
unfolding archive_named
none_named name archives is = ap (archive_named name) is

-- ---- a target into which archives come

module _ (from : Origin) (names : List (List ℕ)) (store : Store) (added : List Addition) (h g i : History) (begun : h.acts ≡ []) (first : SettlesFirst h g)
    (done : AllDone h g) (made : IsMadeNew store h g) (reported : KeepsReported from names store added g i) where
  moments : Moments (IsReportedOf from names store added made.fits.written false g) g i
  moments = reported false made.fits

  since : Moments (λ _. Unit {0}) h i
  since =
      moments_then (λ _. Unit {0}) h g i (done_moments h g done) done
      (moments_map (IsReportedOf from names store added made.fits.written false g) (λ _. Unit {0}) g i
      (λ k p. tt) moments)

  starts : SettlesFirst h i
  starts e =
      first_kept (IsReportedOf from names store added made.fits.written false g) g i
      made.fits.under_way.fits.own.safe.settled_is (first e) moments

  stands : StandsOn [] from names added (accepted_in store) (repo_view store.repo) made.fits.written (files_now i)
  stands = (moments.last.sound.shows (files_now i) (now_left (λ _. Unit {0}) h i begun starts since)).0

  pub same_start : i.start ≡ files_now h
  same_start = ap (λ (k : History). k.start) (moments_begin (λ _. Unit {0}) h i since).last ∙ sym (files_begun h begun)

  -- no live chunk breaks a rule
  pub none_breaks : (id : List ℕ) (fault : BlobFault) → BreaksLive (files_now i) (repo_view store.repo).keys id fault → ⊥
  none_breaks id fault breaks = by (stands.opening id breaks.blob breaks.chunk live) where
    both : Some stands.entries ≡ Some breaks.entries
    both = one_shown (files_now i) (Some stands.entries) (Some breaks.entries) stands.shown breaks.shown

    same : breaks.entries ≡ stands.entries
    same = let e : Some stands.entries ≡ Some breaks.entries = both in cc

    live : live_in id stands.entries ≡ Some breaks.blob
    live = ap (live_in id) (sym same) ∙ breaks.live

    by : (live_in id (entries_of made.fits.written) ≡ Some breaks.blob) ⊎ ((content : List ℕ) × OpensTo (repo_view store.repo).keys id breaks.blob content) → ⊥
    by (inl old) = none_live store h g made id breaks.blob breaks.chunk old
    by (inr one) =
        let e : None ≡ Some fault = sym (opens_no_fault (repo_view store.repo).keys id breaks.blob one.0 one.1) ∙ breaks.breaks in
        let no : ⊥ = cc in
        no

  -- each archive that a store has then is one of these
  pub named_among : (now : Store) (name : List ℕ) → StoreFits false now i → (repo_view now.repo).keys ≡ (repo_view store.repo).keys
      → IsSome (archive_named name (repo_view now.repo).manifest.archives) → IsAmong names name
  named_among now name fits keys there = by (archive_named name stands.manifest.archives) refl where
    next : RepoState
    next = with_manifest (repo_view store.repo) stands.manifest

    shown : Shows (files_now i) fits.written.committed
    shown = (behind now.session.after, fits_now now.session fits.written.committed fits.written.pending i fits.under_way.fits)

    both : Some stands.entries ≡ Some fits.manifest.entries
    both = one_shown (files_now i) (Some stands.entries) fits.written.committed stands.shown shown ∙ fits.manifest.is

    entries : fits.manifest.entries ≡ stands.entries
    entries = let e : Some stands.entries ≡ Some fits.manifest.entries = both in cc

    same : stands.manifest ≡ (repo_view now.repo).manifest
    same = one_held next (repo_view now.repo) stands.entries (sym keys) stands.holds (subst (HoldsManifest (repo_view now.repo)) entries fits.manifest.holds)

    newly : (entry : ArchiveRef) → (archive_named name (accepted_in store).archives ≡ Some entry) ⊎ IsAmong stands.done name → IsAmong names name
    newly entry (inl old) =
        absurd (let e : None ≡ Some entry = sym (none_named name (accepted_in store).archives (new_archives store h g made)) ∙ old in let no : ⊥ = cc in no)
    newly entry (inr among) = subst (λ (l : List (List ℕ)). IsAmong l name) (sym stands.front) (among_front stands.done stands.rest name among)

    by : (o : Option ArchiveRef) → archive_named name stands.manifest.archives ≡ o → IsAmong names name
    by None none =
        let e : archive_named name (repo_view now.repo).manifest.archives ≡ None =
        ap (λ (m : ManifestText). archive_named name m.archives) (sym same) ∙ none in
        let some : false ≡ true = subst IsSome e there in
        absurd (let no : ⊥ = cc in no)
    by (Some entry) is = newly entry (stands.only name entry is)
