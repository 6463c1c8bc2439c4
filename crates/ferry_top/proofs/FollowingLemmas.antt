-- Lemmas on specs/Following.antt: what a run leaves is what a run may begin with.
use Rattle.std.proofs.Common.{◌≡◌, ◌⊎◌, inl, inr, ℕ, ◌<◌, ◌≤◌, Bool, true, false, cond, List, [], ◌∷◌, length}
use Rattle.std.proofs.Common.{Option, Some, None, Ok, refl, sym, ◌∙◌, ap, subst, arith}
use Rattle.std.proofs.lemmas.Bool.{le-ltb}
use Rattle.std.specs.List.{AllByRecursion}
use Rattle.ferry_base.specs.Limits.{zero_id}
use Rattle.ferry_blob.specs.Blob.{IsBlockOf, block_count, nonce_of}
use Rattle.ferry_compact.proofs.LastLemmas.{blob_after, live_after, live_step}
use Rattle.ferry_compact.proofs.LiesLemmas.{entries_in}
use Rattle.ferry_compact.proofs.RunLemmas.{files_begun, log_blob}
use Rattle.ferry_compact.specs.Steps.{IsPutAmong}
use Rattle.ferry_disk.proofs.MomentLemmas.{all_moments}
use Rattle.ferry_disk.specs.Act.{History, after_stop, files_now}
use Rattle.ferry_disk.specs.Device.{Told}
use Rattle.ferry_disk.specs.Files.{Files}
use Rattle.ferry_disk.specs.Image.{settled}
use Rattle.ferry_disk.specs.Moments.{Between, Moments}
use Rattle.ferry_log.proofs.LawLemmas.{one_log, uncommitted_apart}
use Rattle.ferry_log.proofs.PlacesLemmas.{state_of_log}
use Rattle.ferry_log.specs.Live.{live_blob, names_key, put_blob}
use Rattle.ferry_log.specs.Log.{IsUncommitted, Located, numbers_up_to}
use Rattle.ferry_nonce.specs.Counter.{KeepsNumbers, begin_of}
use Rattle.ferry_repo.proofs.LawLemmas.{has_live, live_there}
use Rattle.ferry_repo.specs.Opening.{OpensFilesTo, RepoState}
use Rattle.ferry_repo.specs.declared.secret.Secret.{Secret}
use Rattle.ferry_run_compact.specs.Compact.{CompactEach, KeepsObjects}
use Rattle.ferry_run_delete.proofs.ShowLemmas.{DeleteEach, Deletion, deletion}
use Rattle.ferry_run_tag.proofs.ShowLemmas.{TagEach, Tagging, tagging}
use Rattle.ferry_store.specs.State.{HasNumber}
use Rattle.ferry_run_transfer.specs.Transfer.{Request, TransferEach, asked}
use Rattle.ferry_segment.specs.Entry.{LogEntry, PutEntry, DeleteEntry, CommitEntry}
use Rattle.ferry_status.proofs.LeftLemmas.{now_left}
use Rattle.ferry_status.specs.Devices.{Devices}
use Rattle.ferry_status.specs.declared.status.Secrets.{Secrets}
use Rattle.ferry_status.specs.declared.status.Status.{Status}
use Rattle.ferry_stops.proofs.BlobLemmas.{stop_blob}
use Rattle.ferry_stops.proofs.KeptLemmas.{stop_kept}
use Rattle.ferry_stops.specs.Blobs.{AllTraced, BlobOf}
use Rattle.ferry_stops.specs.Chance.{EachStop, IsLeft}
use Rattle.ferry_stops.specs.Counters.{IsAbove, IsKept, IsNonce}
use Rattle.ferry_store.proofs.StandingLemmas.{opened_unlocks}
use Rattle.ferry_store.proofs.StepLemmas.{moments_begin, moments_both, moments_here, moments_map}
use Rattle.ferry_store.specs.Standing.{UnlocksSettings}
use Rattle.ferry_store.specs.Store.{KeepsRun, OpensSome}
use Rattle.ferry_top.specs.Following.{AreLeft, CanGoOn, IsRunOf, Leaves, MayBegin, Writes, ended, made, stopped, unmade}
use Rattle.ferry_top.specs.Init.{CommandEach}
use Rattle.ferry_top.specs.Run.{DoesCommand}
use Rattle.ferry_write.specs.Session.{SettlesFirst}
use Rattle.ferry_words.specs.declared.command.Command.{Command}
use Rattle.ferry_words.specs.declared.command.Command.TheVariants.{Keys, Key, List as ListArchives, ListItems, Extract, Check}
use Rattle.ferry_words.specs.declared.command.Command.TheVariants.{Init, MakeKey, Transfer, Plan, Delete, Compact, TagArchives, Drill}

-- ---- an object that is live lies in a segment

among_more : (e : LogEntry) (es : List LogEntry) (blob : List ℕ) → IsPutAmong es blob → IsPutAmong (e ∷ es) blob
among_more e es blob is = (is.0, e ∷ is.1, is.2, ap (λ (l : List LogEntry). e ∷ l) is.3)

put_here : (e : LogEntry) (es : List LogEntry) (blob : List ℕ) → put_blob e ≡ Some blob → IsPutAmong (e ∷ es) blob
put_here (PutEntry key put) es blob is = let same : put ≡ blob = cc in (key, [], es, ap (λ (b : List ℕ). PutEntry key b ∷ es) same)
put_here (DeleteEntry key) es blob is = let no : ⊥ = cc in absurd no
put_here CommitEntry es blob is = let no : ⊥ = cc in absurd no

step_put : (key : List ℕ) (old : Option (List ℕ)) (e : LogEntry) (es : List LogEntry) (blob : List ℕ) (b : Bool)
    → cond b (put_blob e) old ≡ Some blob → (old ≡ Some blob) ⊎ IsPutAmong (e ∷ es) blob
step_put key old e es blob true is = inr (put_here e es blob is)
step_put key old e es blob false is = inl is

after_put : (key : List ℕ) (es : List LogEntry) (blob : List ℕ) (old : Option (List ℕ)) → live_after key old es ≡ Some blob
    → (old ≡ Some blob) ⊎ IsPutAmong es blob
after_put key [] blob old is = inl is
after_put key (e ∷ es) blob old is = elim (after_put key es blob (live_step key old e) is) [
  | inl was ↦ step_put key old e es blob (names_key key e) was
  | inr among ↦ inr (among_more e es blob among)
]

live_put : (key : List ℕ) (log : List Located) (blob : List ℕ) → live_blob key log ≡ Some blob → IsPutAmong (entries_in log) blob
live_put key log blob live = elim (after_put key (entries_in log) blob None (sym (blob_after key log) ∙ live)) [
  | inl none ↦ let no : ⊥ = cc in absurd no
  | inr among ↦ among
]

-- ---- the number of a repository that opens

one_block : (blob : List ℕ) → 43 ≤ length blob → 1 ≤ block_count blob
unfolding block_count
one_block blob long =
    let many = le-ltb (length blob) 43 long in
    rw many (omega (arith, long))

number_there : (image : Files) (least : ℕ) (file : Option (List ℕ)) → image.nonce ≡ file → IsNonce image.nonce least → 1 ≤ least → HasNumber image
number_there image least None e is some =
    let zero_is : least ≡ 0 = subst (λ (f : Option (List ℕ)). IsNonce f least) e is in absurd (let no : ⊥ = omega (arith, some, zero_is) in no)
number_there image least (Some text) e is some = record {
  text = text;
  nonce = e;
  number = least;
  spelled = subst (λ (f : Option (List ℕ)). IsNonce f least) e is;
}

-- the manifest has taken a block, so that the file is there
has_number : (secret : Secret) (moment : History) (image : Files) (repo : RepoState) → IsKept moment → AllTraced moment → IsLeft moment image
    → OpensFilesTo image secret repo → HasNumber image
has_number secret moment image repo kept traced left opens =
    let reads = opens.opens.unlocks.reads in
    let object = opens.opens.object in
    let put = live_put zero_id reads.log object.blob (live_there image repo.log reads zero_id object.blob object.has) in
    let blob = object.blob in
    let after = after_stop image moment.acts moment in
    let known : BlobOf after blob = log_blob after (numbers_up_to image repo.log.transaction) reads.log blob refl reads.is.joined put in
    let there : BlobOf moment blob = stop_blob moment image blob traced left known in
    let above : IsAbove moment image = kept.fresh.above image left.image_is in
    let blocks = one_block blob object.opens.size in
    let block : IsBlockOf blob (nonce_of blob) = record { first = omega arith; below = omega (arith, blocks) } in
    let below : nonce_of blob < above.value = above.above blob (nonce_of blob) there block in
    number_there image above.value image.nonce refl above.nonce (omega (arith, below))

-- ---- what each moment shows

abbrev CanOpen : Secret → Files → Type 0
CanOpen secret image = IsUncommitted image ⊎ OpensSome image secret

record Goes (secret : Secret) (before moment : History) : Type 0 where
  pub kept : IsKept moment
  pub traced : AllTraced moment
  pub numbers : KeepsNumbers moment
  pub opens : EachStop (CanOpen secret) moment
  pub begins : begin_of moment ≡ begin_of before

goes_on : (secret : Secret) (before now : History) → Moments (λ h. IsKept h × AllTraced h) before now → Moments KeepsNumbers before now
    → Moments (EachStop (CanOpen secret)) before now → Moments (Goes secret before) before now
goes_on secret before now kept numbers opens =
    let Kept : History → Type 0 = λ h. IsKept h × AllTraced h in
    let Opens : History → Type 0 = EachStop (CanOpen secret) in
    let Begins : History → Type 0 = λ h. begin_of h ≡ begin_of before in
    moments_map (λ h. (Kept h × KeepsNumbers h) × (Opens h × Begins h)) (Goes secret before) before now
    (λ h all. record { kept = all.0.0.0; traced = all.0.0.1; numbers = all.0.1; opens = all.1.0; begins = all.1.1 })
    (moments_both (λ h. Kept h × KeepsNumbers h) (λ h. Opens h × Begins h) before now (moments_both Kept KeepsNumbers before now kept numbers)
    (moments_both Opens Begins before now opens (moments_begin Opens before now opens)))

-- of a run that keeps the types of its blobs too
runs_on : (secret : Secret) (before now : History) → Moments (λ h. IsKept h × AllTraced h) before now → Moments KeepsRun before now
    → Moments (EachStop (CanOpen secret)) before now → Moments (Goes secret before) before now
runs_on secret before now kept keeps opens =
    goes_on secret before now kept (moments_map KeepsRun KeepsNumbers before now (λ h both. both.0) keeps) opens

-- the number that a target has with which one can go on
some_number : (secret : Secret) (files : Files) → CanGoOn secret files → (number : ℕ) × IsNonce files.nonce number
some_number secret files (unmade number uncommitted is) = (number, is)
some_number secret files (made repo opens has) = (has.number, subst (λ (f : Option (List ℕ)). IsNonce f has.number) (sym has.nonce) has.spelled)

-- what a stop leaves
go_next : (secret : Secret) (before moment : History) (image : Files) → MayBegin secret before → Goes secret before moment → IsLeft moment image
    → MayBegin secret (after_stop image moment.acts moment)
go_next secret before moment image may goes left =
    let had = some_number secret (files_now before) may.target in
    let start : moment.start ≡ files_now before = ap (λ (h : History). h.start) goes.begins ∙ sym (files_begun before may.begun) in
    let has = goes.numbers had.0 (subst (λ (f : Files). IsNonce f.nonce had.0) (sym start) had.1) in
    let number = has.nonce image left.image_is in
    record {
      begun = refl;
      kept = stop_kept moment image goes.kept goes.traced left;
      target = elim (goes.opens image left) [
        | inl uncommitted ↦ unmade number.value uncommitted number.nonce
        | inr opens ↦ made opens.0 opens.1 (has_number secret moment image opens.0 goes.kept goes.traced left opens.1)
      ];
    }

-- ---- compaction

-- files with the objects of a log open as those did of which it was
open_again : (secret : Secret) (start image : Files) (repo : RepoState) (opens : OpensFilesTo start secret repo)
    → KeepsObjects opens.opens.unlocks.reads.log start image → OpensSome image secret
open_again secret start image repo opens keeps =
    let object = opens.opens.object in
    let settings = subst (λ (file : Option (List ℕ)). UnlocksSettings secret file repo.config repo.keys) (sym keeps.config)
    (opened_unlocks start secret repo opens) in
    let state = state_of_log image keeps.live.transaction keeps.live.now keeps.live.is in
    let same = (one_log image state.0.transaction keeps.live.transaction state.1.log keeps.live.now state.1.is keeps.live.is).1 in
    let live : live_blob zero_id state.1.log ≡ Some object.blob = ap (live_blob zero_id) same
    ∙ (keeps.live.live zero_id ∙ live_there start repo.log opens.opens.unlocks.reads zero_id object.blob object.has) in (
      record repo { log = state.0 },
      record {
        opens = record {
          unlocks = record {
            reads = state.1;
            iterations = settings.iterations;
            key = settings.key;
            unlocks = settings.unlocks;
            keys_are = settings.keys_are;
          };
          content = opens.opens.content;
          object = record { blob = object.blob; has = has_live image state.0 state.1 zero_id object.blob live; opens = object.opens };
          manifest_is = opens.opens.manifest_is;
        };
      },
    )

-- ---- each command

abbrev GoesOn : Secret → History → History → Type 0
GoesOn secret before now = Moments (Goes secret before) before now

transfer_goes : (request : Request) (before now : History) → before.acts ≡ [] → IsKept before → OpensSome (files_now before) request.secrets.target
    → TransferEach request before now → GoesOn request.secrets.target before now
transfer_goes request before now begun kept opens each =
    runs_on request.secrets.target before now (each.1.0 begun kept) (each.1.1.0 begun)
    (moments_map _ (EachStop (CanOpen request.secrets.target)) before now
    (λ h shows image left. let keeps = shows image left in inr (keeps.repo, keeps.opens)) (each.0 begun opens.0 opens.1))

delete_goes : (asked : Deletion) (before now : History) → before.acts ≡ [] → IsKept before → OpensSome (files_now before) asked.secret
    → DeleteEach asked before now → GoesOn asked.secret before now
delete_goes asked before now begun kept opens each =
    runs_on asked.secret before now (each.1.0 begun kept) (each.1.1.0 begun)
    (moments_map _ (EachStop (CanOpen asked.secret)) before now
    (λ h shows image left. let keeps = shows image left in inr (keeps.1.repo, keeps.1.opens)) (each.0 begun opens.0 opens.1))

tag_goes : (asked : Tagging) (before now : History) → before.acts ≡ [] → IsKept before → OpensSome (files_now before) asked.secret
    → TagEach asked before now → GoesOn asked.secret before now
tag_goes asked before now begun kept opens each =
    runs_on asked.secret before now (each.1.0 begun kept) (each.1.1.0 begun)
    (moments_map _ (EachStop (CanOpen asked.secret)) before now
    (λ h shows image left. let keeps = shows image left in inr (keeps.1.repo, keeps.1.opens)) (each.0 begun opens.0 opens.1))

compact_goes : (secret : Secret) (before now : History) → before.acts ≡ [] → IsKept before → OpensSome (files_now before) secret
    → CompactEach before now → GoesOn secret before now
compact_goes secret before now begun kept opens each =
    let reads = opens.1.opens.unlocks.reads in
    goes_on secret before now (each.1.0 begun kept) (each.1.1.0 begun)
    (moments_map (EachStop (KeepsObjects reads.log (files_now before))) (EachStop (CanOpen secret)) before now
    (λ h keeps image left. inr (open_again secret (files_now before) image opens.0 opens.1 (keeps image left)))
    (each.0 begun opens.0.log.transaction reads.log reads.is))

-- a run that makes no act
no_stop : (secret : Secret) (before : History) → before.acts ≡ [] → OpensSome (files_now before) secret → EachStop (CanOpen secret) before
no_stop secret before begun opens image left =
    let same : image ≡ files_now before = left.image_is.before (ap settled begun) ∙ sym (files_begun before begun) in
    inr (subst (λ (f : Files). OpensSome f secret) (sym same) opens)

init_opens : (secret : Secret) (before now : History) → MayBegin secret before → CommandEach secret before now
    → CanGoOn secret (files_now before) → Moments (EachStop (CanOpen secret)) before now
init_opens secret before now may each (unmade number uncommitted is) =
    moments_map _ (EachStop (CanOpen secret)) before now (λ h shows image left. elim (shows image left) [
      | inl quiet ↦ elim quiet.1 [
        | inl none ↦ inl none
        | inr new ↦ inr (new.repo, new.opens)
      ]
      | inr told ↦ inr (told.0.repo, told.0.opens)
    ]) (each.0.0 may.begun uncommitted)
init_opens secret before now may each (made repo opens has) =
    let same : now ≡ before = each.0.1 may.begun (λ none. uncommitted_apart (files_now before) repo.log.transaction none opens.opens.unlocks.reads.is.is) in
    subst (λ (h : History). Moments (EachStop (CanOpen secret)) before h) (sym same)
    (moments_here (EachStop (CanOpen secret)) before (no_stop secret before may.begun (repo, opens)))

init_goes : (secret : Secret) (before now : History) → MayBegin secret before → CommandEach secret before now → GoesOn secret before now
init_goes secret before now may each =
    runs_on secret before now (each.1.0 may.begun may.kept) (each.1.1.0 may.begun) (init_opens secret before now may each may.target)

-- ---- a run

-- what holds of what a device told
between_known : (P : History → History → Type 0) (b a : Option Told) (first last : Told) (before now : History) → b ≡ Some first → a ≡ Some last
    → first.history ≡ before → last.history ≡ now → Between b a P → P before now
between_known P b a first last before now told told_after first_is last_is between = at (subst (λ (o : Option Told). Between o a P) told between)
  where
    at : Between (Some first) a P → P before now
    at all =
        let both : Some all.0 ≡ Some last = sym all.1 ∙ told_after in
        let same : all.0 ≡ last = cc in
        let now_is : all.0.history ≡ now = ap (λ (t : Told). t.history) same ∙ last_is in
        subst (λ (h : History). P h now) first_is (subst (P first.history) now_is all.2)

command_goes : (command : Command) (secrets : Secrets) (before now : History) (first last : Told) (devices : Devices) (status : Status) (after : Devices)
    → devices.target.told ≡ Some first → after.target.told ≡ Some last → first.history ≡ before → last.history ≡ now
    → Writes command secrets.target (files_now before) → DoesCommand (Ok command) secrets devices status after → MayBegin secrets.target before
    → GoesOn secrets.target before now
command_goes (Init iterations timestamp) secrets before now first last devices status after told told_after first_is last_is writes does may =
    init_goes secrets.target before now may
    (between_known (CommandEach secrets.target) devices.target.told after.target.told first last before now told told_after first_is last_is does.each)
command_goes (Transfer block checkpoint timestamp names) secrets before now first last devices status after told told_after first_is last_is writes does may =
    let request = asked secrets (record { block = block; checkpoint = checkpoint; timestamp = timestamp }) names devices.source.told in
    transfer_goes request before now may.begun may.kept writes
    (between_known (TransferEach request) devices.target.told after.target.told first last before now told told_after first_is last_is does.each)
command_goes (Delete timestamp name) secrets before now first last devices status after told told_after first_is last_is writes does may =
    delete_goes (deletion secrets.target name timestamp) before now may.begun may.kept writes
    (between_known (DeleteEach (deletion secrets.target name timestamp)) devices.target.told after.target.told first last before now told told_after first_is
    last_is does.changes.each)
command_goes (Compact threshold) secrets before now first last devices status after told told_after first_is last_is writes does may =
    compact_goes secrets.target before now may.begun may.kept writes
    (between_known CompactEach devices.target.told after.target.told first last before now told told_after first_is last_is does.each)
command_goes (TagArchives timestamp) secrets before now first last devices status after told told_after first_is last_is writes does may =
    tag_goes (tagging secrets.target timestamp devices.entropy.bytes after.entropy.bytes) before now may.begun may.kept writes
    (between_known
    (TagEach (tagging secrets.target timestamp devices.entropy.bytes after.entropy.bytes)) devices.target.told after.target.told first last before now told
    told_after first_is
    last_is does.changes.each)
command_goes Keys secrets before now first last devices status after told told_after first_is last_is writes does may = absurd writes
command_goes Key secrets before now first last devices status after told told_after first_is last_is writes does may = absurd writes
command_goes ListArchives secrets before now first last devices status after told told_after first_is last_is writes does may = absurd writes
command_goes (ListItems name) secrets before now first last devices status after told told_after first_is last_is writes does may = absurd writes
command_goes (Extract name path) secrets before now first last devices status after told told_after first_is last_is writes does may = absurd writes
command_goes Check secrets before now first last devices status after told told_after first_is last_is writes does may = absurd writes
command_goes (MakeKey iterations) secrets before now first last devices status after told told_after first_is last_is writes does may = absurd writes
command_goes (Plan block names) secrets before now first last devices status after told told_after first_is last_is writes does may = absurd writes
command_goes (Drill count) secrets before now first last devices status after told told_after first_is last_is writes does may = absurd writes

run_goes : (secret : Secret) (before now : History) → IsRunOf secret before now → MayBegin secret before → GoesOn secret before now
run_goes secret before now run may =
    let Goal : Secret → Type 0 = λ s. Writes run.command s (files_now before) → MayBegin s before → GoesOn s before now in
    let goes : Goal run.secrets.target = λ writes begins.
    command_goes run.command run.secrets before now run.first run.last run.devices run.status (record run.after { output = run.runs.between })
    run.told run.told_after run.first_is run.last_is writes run.runs.command begins in
    subst Goal run.secret_is goes run.writes may

run_settles : (secret : Secret) (before now : History) → IsRunOf secret before now → SettlesFirst before now
run_settles secret before now run =
    between_known SettlesFirst run.devices.target.told run.after.target.told run.first run.last before now run.told run.told_after run.first_is run.last_is
    run.runs.first

-- ---- what a run leaves

leave_next : (secret : Secret) (before next : History) → Leaves secret before next → MayBegin secret before → MayBegin secret next
leave_next secret before next (ended now run) may =
    let goes = run_goes secret before now run may in
    go_next secret before now (files_now now) may goes.last (now_left (Goes secret before) before now may.begun (run_settles secret before now run) goes)
leave_next secret before next (stopped now moment image run is left) may =
    go_next secret before moment image may (all_moments (Goes secret before) before now (run_goes secret before now run may) moment is) left

pub goes_on_in_turn : (secret : Secret) (before : History) (histories : List History) → AreLeft secret before histories → MayBegin secret before
    → AllByRecursion (MayBegin secret) histories
goes_on_in_turn secret before [] left may = tt
goes_on_in_turn secret before (next ∷ more) left may =
    let again = leave_next secret before next left.0 may in (again, goes_on_in_turn secret next more left.1 again)
