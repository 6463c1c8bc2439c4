-- Lemmas on the laws of a plan: its numbers beside those of a transfer, by what a store fits and by what files show.
use Rattle.std.proofs.Common.{◌≡◌, ◌≢◌, ◌↔◌, ℕ, Bool, true, false, cond, suc, zero, List, [], ◌∷◌, filter, Option, Some, None, Ok}
use Rattle.std.proofs.Common.{refl, sym, ◌∙◌, subst, arith}
use Rattle.std.specs.List.{AllByRecursion}
use Rattle.ferry_base.specs.Limits.{zero_id}
use Rattle.ferry_carry.specs.Counting.{CountsOf}
use Rattle.ferry_store.specs.Commit.{IsSettled}
use Rattle.ferry_carry.specs.Naming.{TaggedRecord}
use Rattle.ferry_carry.specs.Listing.{ListsNames}
use Rattle.ferry_carry.specs.States.{drawn_from, target_state}
use Rattle.ferry_carry.specs.Telling.{ReportsWhole}
use Rattle.ferry_carry.specs.declared.options.Carried.{Carried}
use Rattle.ferry_disk.specs.Act.{files_now}
use Rattle.ferry_disk.specs.Device.{Told}
use Rattle.ferry_disk.specs.Files.{Files}
use Rattle.ferry_log.proofs.FitsLemmas.{place_holds}
use Rattle.ferry_log.specs.State.{FitsFiles, LogState, place_in}
use Rattle.ferry_log.specs.declared.place.Place.{Place}
use Rattle.ferry_mac.specs.declared.keys.Keys.{Keys}
use Rattle.ferry_manifest.specs.Manifest.Text.{ManifestText}
use Rattle.ferry_piece.proofs.AmongLemmas.{among_all}
use Rattle.ferry_piece.specs.Gather.{IsAmong, NoCollision}
use Rattle.ferry_piece.specs.Puts.{Addition, AddsAll, Border, Content, Kind, Stream, contents_in, is_piece}
use Rattle.ferry_plan.proofs.AlikeLemmas.{names_alike}
use Rattle.ferry_plan.proofs.TransferLemmas.{IsOfRecord, PutsAlike, all_sorted, puts_alike, stands_first}
use Rattle.ferry_plan.specs.Plan.{Plans}
use Rattle.ferry_plan.specs.Transfer.{AreNoRecords, HaveOtherIds, PutsPlanned, transfer_from}
use Rattle.ferry_plan.specs.declared.planning.Planned.{Planned}
use Rattle.ferry_repo.proofs.LawLemmas.{opens_fits}
use Rattle.ferry_repo.specs.Objects.{HasBlob, IsMissing}
use Rattle.ferry_repo.specs.Opening.{OpensFilesTo, RepoState, repo_view}
use Rattle.ferry_repo.specs.declared.secret.Secret.{Secret}
use Rattle.ferry_segment.specs.Entry.{LogEntry}
use Rattle.ferry_stops.specs.Entries.{Shows}
use Rattle.ferry_store.proofs.StandingLemmas.{missing_unlive, state_live}
use Rattle.ferry_store.specs.Standing.{HoldsLive, entries_of, live_in}
use Rattle.ferry_store.specs.Store.{StoreFits}
use Rattle.ferry_store.specs.declared.store.Store.{Store}

-- ---- what is live

-- an id has no place in a log exactly where it isn't live by the entries whose blobs the log has
pub missing_live : (files : Files) (log : LogState) (entries : List LogEntry) → FitsFiles files log → HoldsLive files log entries → (id : List ℕ)
    → id ≢ zero_id → IsMissing log id ↔ (live_in id entries ≡ None)
missing_live files log entries fits holds id apart =
    (λ missing. missing_unlive files log entries id apart missing holds, λ none. by (place_in log id) refl none) where
      by : (o : Option Place) → place_in log id ≡ o → live_in id entries ≡ None → IsMissing log id
      by None at none = at
      by (Some place) at none =
          let lies = place_holds files log id place fits at in
          let has : HasBlob files log id lies.0 = record { place = place; placed = at; lies = lies.1 } in
          let both : Some lies.0 ≡ None = sym ((holds id lies.0 apart).0 has) ∙ none in
          absurd (let never : ⊥ = cc in never)

-- ---- numbers

pub numbers_same : (there : Files) (source : RepoState) (block : ℕ) (files : Files) (target : RepoState) (names : List (List ℕ)) (planned : Planned)
    (at : Border) (most : ℕ) (time : Option (List ℕ)) (entries after : List LogEntry) (records : List TaggedRecord) (added : List Addition) (carried : Carried)
    → Plans there source block files target names planned
    → ((id : List ℕ) → id ≢ zero_id → IsMissing target.log id ↔ (live_in id entries ≡ None))
    → ListsNames (transfer_from there source block most time) target.keys target.manifest [] names records added → AddsAll at target.keys most entries added
    after
    → CountsOf added carried → HaveOtherIds target.keys added → PutsPlanned planned carried
numbers_same there source block files target names planned at most time entries after records added carried plans live lists adds counts others =
    let keys = target.keys in
    let log = target.log in
    let alike = names_alike there source block most time keys target.manifest [] names records plans.added added plans.all.lists lists in
    let put : (kind : Kind) → is_piece kind ≡ true → PutsAlike keys log (IsOfRecord keys added) kind plans.added added =
    puts_alike keys log (IsOfRecord keys added) at most entries [] plans.added added after alike adds (all_sorted keys log added others) plans.fresh
    (stands_first keys log (IsOfRecord keys added) entries live) in
    let contents = put Content refl in
    let stream = put Stream refl in
    record {
      chunks = omega (arith, counts.chunks, plans.counts.chunks, contents.0);
      bytes = omega (arith, counts.bytes, plans.counts.bytes, contents.1);
      meta = omega (arith, counts.meta, plans.counts.meta, stream.0);
    }

-- a transfer that was done, by a store that has committed what it accepted
pub numbers_carried : (there : Files) (source : RepoState) (block : ℕ) (files : Files) (names : List (List ℕ)) (planned : Planned) (most : ℕ)
    (time : Option (List ℕ)) (store store_now : Store) (before : Told) (now : Option Told) (count after : ℕ) (drawn drawn_now : Option (List ℕ))
    (carried : Carried) → IsSettled store → StoreFits false store before.history
    → Plans there source block files (repo_view store.repo) names planned
    → (did : ReportsWhole (transfer_from there source block most time) names (target_state (Some before) count store)
    (target_state now after store_now) (drawn_from drawn drawn_now) (Ok carried))
    → HaveOtherIds (repo_view store.repo).keys did.added → PutsPlanned planned carried
numbers_carried there source block files names planned most time store store_now before now count after drawn drawn_now carried settled fits plans did others =
    let target = repo_view store.repo in
    let done = did.works.end.2.1 in
    let grown = done.0.0 false fits in
    let lists = subst (λ (m : ManifestText). ListsNames (transfer_from there source block most time) target.keys m [] names did.records did.added) settled
    done.0.1 in
    numbers_same there source block files target names planned _ most time (entries_of fits.written) (entries_of grown.fits_now.written) did.records did.added
    carried plans
    (missing_live (files_now before.history) target.log (entries_of fits.written) fits.repo.log fits.holds) lists grown.puts done.1.0.put others

-- what was added behind the entries that files show
pub numbers_shown : (there : Files) (source : RepoState) (block : ℕ) (files : Files) (secret : Secret) (target : RepoState) (names : List (List ℕ))
    (planned : Planned) (at : Border) (most : ℕ) (time : Option (List ℕ)) (entries after : List LogEntry) (records : List TaggedRecord) (added : List Addition)
    (carried : Carried) → OpensFilesTo files secret target
    → Shows files (Some entries) → Plans there source block files target names planned
    → ListsNames (transfer_from there source block most time) target.keys target.manifest [] names records added → AddsAll at target.keys most entries added
    after
    → CountsOf added carried → HaveOtherIds target.keys added → PutsPlanned planned carried
numbers_shown there source block files secret target names planned at most time entries after records added carried opens shows plans lists adds counts others =
    numbers_same there source block files target names planned at most time entries after records added carried plans
    (missing_live files target.log entries (opens_fits files secret target opens).log
    (λ id blob apart. state_live files target.log entries opens.opens.unlocks.reads shows id blob)) lists adds counts others

-- ---- no collision

kept_next : (b : Bool) (one : Addition) (kept added : List Addition) (content : List ℕ)
    → (IsAmong (contents_in kept) content → IsAmong (contents_in added) content) → IsAmong (contents_in (cond b (one ∷ kept) kept)) content
    → IsAmong (contents_in (one ∷ added)) content
kept_next true one kept added content rest (zero, is) = (zero, is)
kept_next true one kept added content rest (suc place, is) = let later = rest (place, is) in (suc later.0, later.1)
kept_next false one kept added content rest among = let later = rest among in (suc later.0, later.1)

kept_among : (P : Addition → Bool) (added : List Addition) (content : List ℕ) → IsAmong (contents_in (filter P added)) content
    → IsAmong (contents_in added) content
kept_among P [] content among = among
kept_among P (one ∷ added) content among = kept_next (P one) one (filter P added) added content (kept_among P added content) among

-- contents that don't collide have other ids where they are others
pub apart_ids : (keys : Keys) (scope : List (List ℕ)) (added : List Addition) → NoCollision keys scope
    → AllByRecursion (IsAmong scope) (contents_in added) → AreNoRecords added → HaveOtherIds keys added
apart_ids keys scope added apart within others piece text is_piece_of is_record_of same =
    others piece text is_piece_of is_record_of
    (apart.one piece text (among_all (IsAmong scope) (contents_in added) piece within (kept_among _ added piece is_piece_of))
    (among_all (IsAmong scope) (contents_in added) text within (kept_among _ added text is_record_of)) same)
