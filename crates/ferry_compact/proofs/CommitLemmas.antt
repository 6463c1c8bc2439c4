-- Lemmas on specs/Compact.antt: the commit of what was put again, and the removals behind it.
use Rattle.std.proofs.Common.{◌≡◌, ◌⊎◌, inl, inr, ℕ, suc, ◌<◌, ◌≤◌, true, false, not, List, [], ◌∷◌, ◌++◌, map}
use Rattle.std.proofs.Common.{Option, Some, None, Ok, Err, refl, sym, ◌∙◌, ap, subst, arith}
use Rattle.std.proofs.lemmas.List.{append-nil, append_assoc, append_cancel_left}
use Rattle.std.specs.FinMap.{get}
use Rattle.std.specs.List.{AllByRecursion}
use Rattle.ferry_compact.proofs.CompactLemmas.{clears_stop, entries_live, known_blobs, so_later}
use Rattle.ferry_compact.proofs.FillingLemmas.{commit_filled}
use Rattle.ferry_compact.proofs.LiesLemmas.{LiesBelow, entries_in, have_lies, lies_one, lies_same, lies_split, log_lies}
use Rattle.ferry_compact.proofs.ListLemmas.{all_each, all_map, filter_all, map-append}
use Rattle.ferry_compact.proofs.LastLemmas.{live_after}
use Rattle.ferry_compact.proofs.LiveLemmas.{moved_live}
use Rattle.ferry_compact.proofs.OpensLemmas.{chosen_low, chosen_rise, opens_ordered}
use Rattle.ferry_compact.proofs.RemovingLemmas.{Removing, kept_in, removal_gains, removal_live, removing_all, removing_shown, shows_live}
use Rattle.ferry_compact.proofs.RunLemmas.{Next, none_removed, run_then}
use Rattle.ferry_compact.proofs.StepLemmas.{did_stopped, did_then, fail_where, moments_acts, moments_map, rose_where}
use Rattle.ferry_compact.proofs.WentLemmas.{gains_wider, write_is, write_refused}
use Rattle.ferry_compact.specs.Choice.{chosen_in}
use Rattle.ferry_compact.specs.Compact.{MovesAll, ShowsLive, StayUpTo}
use Rattle.ferry_compact.specs.Fault.{RefusesCompact, compact_failed, write_fault}
use Rattle.ferry_compact.specs.Filling.{AreFilled}
use Rattle.ferry_compact.specs.Moving.{is_among, left_in, moved_in}
use Rattle.ferry_compact.specs.Runs.{EachRun, MovedAll, OpensAs, RefusesRun, SoFar, Stands, Written}
use Rattle.ferry_compact.specs.Steps.{Did, IsPutAmong}
use Rattle.ferry_disk.proofs.MomentLemmas.{between_both, between_map}
use Rattle.ferry_disk.specs.Act.{History, RemoveOf, files_now, with_act}
use Rattle.ferry_disk.specs.Device.{RoseWhere, Told}
use Rattle.ferry_disk.specs.Faults.{FailedWhere, failed_told}
use Rattle.ferry_disk.specs.Files.{Files}
use Rattle.ferry_disk.specs.Image.{plain_in}
use Rattle.ferry_disk.specs.Moments.{Between, EachMoment, with_steps}
use Rattle.ferry_disk.specs.declared.name.Name.{Name}
use Rattle.ferry_log.specs.Live.{live_blob}
use Rattle.ferry_log.specs.Log.{Located}
use Rattle.ferry_log.specs.State.{LogState}
use Rattle.ferry_segment.specs.Entry.{CommitEntry, LogEntry}
use Rattle.ferry_stops.proofs.NumberLemmas.{Rising}
use Rattle.ferry_stops.proofs.TellLemmas.{untold_each}
use Rattle.ferry_stops.specs.Blobs.{AllTraced, Gains}
use Rattle.ferry_stops.specs.Chance.{EachStop}
use Rattle.ferry_stops.specs.Entries.{EndsAt, HaveBelow, Shows, ShowsAt}
use Rattle.ferry_stops.specs.Tells.{TellsNoLine, TellsNothing}
use Rattle.ferry_write.proofs.GainLemmas.{own_gains}
use Rattle.ferry_write.proofs.LawLemmas.{fits_now}
use Rattle.ferry_write.proofs.PlainLemmas.{plain_next}
use Rattle.ferry_write.proofs.ScriptLemmas.{stop_moments}
use Rattle.ferry_write.specs.Fault.{write_failed}
use Rattle.ferry_write.specs.Room.{AreUsedUp, after_commit, behind}
use Rattle.ferry_write.specs.Rows.{BringsNone, KeepsRows}
use Rattle.ferry_write.specs.Script.{AllDone, DoesAll, Ran, StopsIn}
use Rattle.ferry_write.specs.Session.{Commits, KeepsOrCommits, KeepsPlain, OnlyAppends, SessionFits, rests_at}
use Rattle.ferry_write.specs.declared.fault.WriteFault.{WriteFault}
use Rattle.ferry_write.specs.declared.fault.WriteFault.TheVariants as Writes
use Rattle.ferry_write.specs.declared.session.Session.{Session}

-- ---- what is live once all is committed

none_gone : (log : List Located) → kept_in [] log ≡ log
none_gone log =
    filter_all (λ (e : Located). not (is_among [] e.segment)) log (all_each (λ (e : Located). not (is_among [] e.segment) ≡ true) (λ e. refl) log)

none_left : (log : List Located) → left_in log [] ≡ entries_in log
unfolding left_in
none_left log = ap entries_in (none_gone log)

whole_live : (state : LogState) (threshold : ℕ) (log : List Located) (h : History) → OpensAs state log h → (key : List ℕ)
    → live_after key None (entries_in log ++ (moved_in log (chosen_in threshold state.extents) ++ CommitEntry ∷ [])) ≡ live_blob key log
whole_live state threshold log h opens key =
    let chosen = chosen_in threshold state.extents in
    ap (λ (l : List LogEntry). live_after key None (l ++ (moved_in log chosen ++ CommitEntry ∷ []))) (sym (none_left log))
    ∙ moved_live key log [] chosen (chosen_rise threshold state log h opens) (opens_ordered state log h opens)

-- ---- the commit

-- what the call leaves, wherever it ended
pub record CommitWent (session : Session) (before now : History) : Type 0 where
  pub keeps : KeepsOrCommits session before now
  pub brings : BringsNone session before now
  pub appends : OnlyAppends session before now
  pub plain : KeepsPlain before now
  pub untold : TellsNothing before now

pub commit_went : (session : Session) (a b : Option Told) → Between a b (KeepsOrCommits session) → Between a b (BringsNone session)
    → Between a b (OnlyAppends session) → Between a b KeepsPlain → Between a b TellsNothing → Between a b (CommitWent session)
commit_went session a b keeps brings appends plain untold =
    between_map a b
    (λ h g. (KeepsOrCommits session h g × BringsNone session h g) × (OnlyAppends session h g × (KeepsPlain h g × TellsNothing h g))) (CommitWent session)
    (λ h g all. record { keeps = all.0.0; brings = all.0.1; appends = all.1.0; plain = all.1.1.0; untold = all.1.1.1 })
    (between_both a b (λ h g. KeepsOrCommits session h g × BringsNone session h g)
    (λ h g. OnlyAppends session h g × (KeepsPlain h g × TellsNothing h g))
    (between_both a b (KeepsOrCommits session) (BringsNone session) keeps brings)
    (between_both a b (OnlyAppends session) (λ h g. KeepsPlain h g × TellsNothing h g) appends (between_both a b KeepsPlain TellsNothing plain untold)))

-- the entries of a log, with what was put again and the commit
abbrev committed_in : List Located → List ℕ → List LogEntry
committed_in log chosen = entries_in log ++ (moved_in log chosen ++ CommitEntry ∷ [])

either_live : (state : LogState) (threshold : ℕ) (log : List Located) (h : History) (image : Files) → OpensAs state log h
    → Shows image (Some (entries_in log))
    ⊎ Shows image (Some ((entries_in log ++ moved_in log (chosen_in threshold state.extents)) ++ CommitEntry ∷ [])) → ShowsLive log image
either_live state threshold log h image opens (inl old) = entries_live log image old
either_live state threshold log h image opens (inr new) =
    let chosen = chosen_in threshold state.extents in
    shows_live log image new.0 (committed_in log chosen)
    (subst (λ (es : List LogEntry). ShowsAt image new.0 (Some es)) (append_assoc (entries_in log) (moved_in log chosen) (CommitEntry ∷ [])) new.1)
    (whole_live state threshold log h opens)

commit_stays : (limit : ℕ) (state : LogState) (log : List Located) (pending : List LogEntry) (session : Session) (h g i : History)
    → Stands limit state log pending session h g → OnlyAppends session g i → StayUpTo state.transaction g i
commit_stays limit state log pending session h g i stands appends n le =
    (appends (Some (entries_in log)) pending stands.writing.fits).below n
    (subst (λ (a : Option ℕ). n < behind a) (sym stands.writing.after_is) (omega (arith, le)))

commit_next : (limit : ℕ) (state : LogState) (threshold : ℕ) (log : List Located) (session : Session) (h g i : History) → OpensAs state log h
    → Stands limit state log (moved_in log (chosen_in threshold state.extents)) session h g → CommitWent session g i
    → Next state.transaction (chosen_in threshold state.extents) log h g i
commit_next limit state threshold log session h g i opens stands went =
    let chosen = chosen_in threshold state.extents in
    let moved = moved_in log chosen in
    let fits = stands.writing.fits in
    record {
      live = moments_map
          (EachStop (λ image. Shows image (Some (entries_in log)) ⊎ Shows image (Some ((entries_in log ++ moved) ++ CommitEntry ∷ []))))
          (EachStop (ShowsLive log)) g i (λ k shows image left. either_live state threshold log h image opens (shows image left))
          (went.keeps (Some (entries_in log)) moved fits);
      gains = λ e.
          moments_map (Gains g (λ _. ⊥)) (Gains g (IsPutAmong (entries_in log))) g i
          (gains_wider g (λ _. ⊥) (IsPutAmong (entries_in log)) (λ blob no. absurd no)) (went.brings (Some (entries_in log)) moved fits (stands.rows e));
      removes = none_removed state.transaction chosen g i (commit_stays limit state log moved session h g i stands went.appends);
      plain = went.plain;
      untold = went.untold;
    }

-- Behind the commit, before a segment is removed.
pub record Closed (limit : ℕ) (state : LogState) (chosen : List ℕ) (log : List Located) (before now : History) : Type 0 where
  pub so : SoFar state.transaction before now
  pub back : List Located
  pub end : ℕ
  pub tail : entries_in back ≡ moved_in log chosen ++ CommitEntry ∷ []
  pub removing : Removing log back state.transaction end [] now
  pub shown : ShowsAt (files_now now) end (Some (committed_in log chosen))
  pub filled : AreFilled limit (suc state.transaction) removing.last (files_now now)
  pub traced : before.acts ≡ [] → AllTraced now

abbrev pub IsClosed : ℕ → LogState → List ℕ → History → History → Type 0
IsClosed limit state chosen before now = (log : List Located) → OpensAs state log before → Closed limit state chosen log before now

-- what is committed, by places: the log, and what stands behind it
closed_lies : (t end : ℕ) (log : List Located) (more : List LogEntry) (g : History) → suc t ≤ end → LiesBelow (files_now g) (suc t) log
    → HaveBelow (files_now g) end (entries_in log ++ more)
    → (back : List Located) × LiesBelow (files_now g) end (log ++ back) × (entries_in back ≡ more) × AllByRecursion (λ e. suc t ≤ e.segment) back
closed_lies t end log more g le lies have =
    let files = files_now g in
    let whole = have_lies files end (entries_in log ++ more) have in
    let parts = lies_split files (suc t) end whole.0 le whole.1 in
    let same : parts.0 ≡ log = lies_one files (suc t) parts.0 log parts.2 lies in
    let all : whole.0 ≡ log ++ parts.1 = parts.3 ∙ ap (λ (l : List Located). l ++ parts.1) same in
    let entries : entries_in log ++ entries_in parts.1 ≡ entries_in log ++ more =
    sym (map-append (λ (e : Located). e.entry) log parts.1) ∙ (ap entries_in (sym all) ∙ whole.2) in (
      parts.1,
      subst (LiesBelow files end) all whole.1,
      append_cancel_left (entries_in log) (entries_in parts.1) more entries,
      parts.4,
    )

-- the parts of what fits behind a commit
record Ends (session now : Session) (entries : List LogEntry) (history : History) : Type 0 where
  pub end_is : behind now.after ≡ suc (behind session.last)
  pub fits : SessionFits now (Some entries) [] history

-- the segments behind the last commit of before, once all is committed that was put
commit_behind : (limit t : ℕ) (committed pending : List LogEntry) (session : Session) (g i : History) → SessionFits session (Some committed) pending g
    → OnlyAppends session g i → AreFilled limit (suc t) (behind session.last) (files_now g)
    → EndsAt (files_now i) (suc (behind session.last)) (committed ++ (pending ++ CommitEntry ∷ []))
    → AreFilled limit (suc t) (behind session.last) (files_now i)
commit_behind limit t committed pending session g i fits appends filled ends =
    let end = behind session.last in
    let at : ends.last ≡ end = (let e = ends.end_is in omega (arith, e)) in
    commit_filled limit (suc t) end (files_now g) (files_now i) (committed ++ pending) ends.bytes filled fits.entries
    (subst (HaveBelow (files_now i) (suc end)) (sym (append_assoc committed pending (CommitEntry ∷ []))) ends.entries_are)
    (appends (Some committed) pending fits).longer
    (subst (λ (n : ℕ). get (files_now i).segments n ≡ Some ends.bytes) at ends.there) ends.committed

closed_at : (limit : ℕ) (state : LogState) (threshold : ℕ) (log : List Located) (session now : Session) (h g i : History) → OpensAs state log h
    → Stands limit state log (moved_in log (chosen_in threshold state.extents)) session h g → CommitWent session g i
    → Ends session now (committed_in log (chosen_in threshold state.extents)) i → (h.acts ≡ [] → AllTraced i)
    → Closed limit state (chosen_in threshold state.extents) log h i
closed_at limit state threshold log session now h g i opens stands went ends traced =
    let t = state.transaction in
    let chosen = chosen_in threshold state.extents in
    let moved = moved_in log chosen in
    let entries = committed_in log chosen in
    let stays = commit_stays limit state log moved session h g i stands went.appends in
    let more = moments_acts
    (EachStop (λ image. Shows image (Some (entries_in log)) ⊎ Shows image (Some ((entries_in log ++ moved) ++ CommitEntry ∷ [])))) g i
    (went.keeps (Some (entries_in log)) moved stands.writing.fits) in
    let so = so_later t h g i more.0 stands.so stays more.1 in
    let end = behind now.after in
    let commits = ends.fits.own.commits in
    let order : suc t ≤ behind session.last =
    subst (λ (a : Option ℕ). behind a ≤ behind session.last) stands.writing.after_is stands.writing.fits.order in
    let end_is = ends.end_is in
    let last_is = commits.end_is in
    let lies = lies_same (files_now h) (files_now i) (suc t) log (λ m lt. sym (so.stays m (omega (arith, lt)))) (log_lies (files_now h) t log opens.is) in
    let parts = closed_lies t end log (moved ++ CommitEntry ∷ []) i (omega (arith, order, end_is)) lies commits.entries_are in
    record {
      so = so;
      back = parts.0;
      end = end;
      tail = parts.2;
      removing = record {
        safe = ends.fits.own.safe;
        open_above = (fits_now now (Some entries) [] i ends.fits).open_above;
        last = commits.last;
        end_is = last_is;
        order = omega (arith, order, end_is, last_is);
        bytes = commits.bytes;
        there = commits.there;
        committed = commits.committed;
        lies = subst (λ (l : List Located). LiesBelow (files_now i) end (l ++ parts.0)) (sym (none_gone log)) parts.1;
        high = all_map (λ (e : Located). suc t ≤ e.segment) (λ (e : Located). t < e.segment) (λ e le. omega (arith, le)) parts.0 parts.3;
      };
      shown = fits_now now (Some entries) [] i ends.fits;
      filled = subst (λ (n : ℕ). AreFilled limit (suc t) n (files_now i)) (omega (arith, end_is, last_is))
          (commit_behind limit t (entries_in log) moved session g i stands.writing.fits went.appends stands.fills.filled
          (subst (λ (n : ℕ). EndsAt (files_now i) n entries) end_is commits));
      traced = traced;
    }

commit_ends : (log : List Located) (moved : List LogEntry) (session now : Session) (g i : History) → now ≡ after_commit session
    → SessionFits session (Some (entries_in log)) moved g → Commits session now g i
    → Ends session now (entries_in log ++ (moved ++ CommitEntry ∷ [])) i
commit_ends log moved session now g i is fits commits = record {
  end_is = ap (λ (s : Session). behind s.after) is;
  fits = subst (λ (es : List LogEntry). SessionFits now (Some es) [] i) (append_assoc (entries_in log) moved (CommitEntry ∷ []))
      (commits (Some (entries_in log)) moved fits);
}

pub commit_did : (limit : ℕ) (state : LogState) (threshold : ℕ) (session now : Session) (a b c : Option Told) (n m k : ℕ) → now ≡ after_commit session
    → Between b c (KeepsOrCommits session) → Between b c (BringsNone session) → Between b c (OnlyAppends session) → Between b c KeepsPlain
    → Between b c TellsNothing → Between b c (Commits session now) → Between b c (KeepsRows session now) → Between b c AllDone → k ≡ m
    → failed_told c ≡ failed_told b
    → Did (EachRun state (chosen_in threshold state.extents)) (Written limit state (chosen_in threshold state.extents) session) (RefusesRun state) a b n m
    (Ok tt)
    → Did (EachRun state (chosen_in threshold state.extents)) (IsClosed limit state (chosen_in threshold state.extents)) (RefusesRun state) a c n k (Ok tt)
commit_did limit state threshold session now a b c n m k is keeps brings appends plain untold commits rows done caused ends p =
    let chosen = chosen_in threshold state.extents in
    let went = commit_went session b c keeps brings appends plain untold in
    did_then (EachRun state chosen) (Written limit state chosen session) (RefusesRun state) (CommitWent session)
    (λ h g. CommitWent session h g × (Commits session now h g × KeepsRows session now h g)) (λ f h g. ⊥)
    (EachRun state chosen) (IsClosed limit state chosen) (RefusesRun state) a b c n m k (Ok tt)
    (λ h g i run d written step log opens.
    let stands = written log opens in
    run_then state.transaction chosen log h g i (known_blobs state log h opens) (run log opens) d stands.so
    (commit_next limit state threshold log session h g i opens stands step))
    (λ h g i run d written step log opens.
    let stands = written log opens in
    let moved = moved_in log chosen in
    closed_at limit state threshold log session now h g i opens stands step.0
    (commit_ends log moved session now g i is stands.writing.fits step.1.0)
    (λ e. (step.1.1 (Some (entries_in log)) moved stands.writing.fits (stands.rows e)).traced))
    (λ fault h g i run written no log opens. absurd no)
    p
    (record {
      each = went;
      end = between_both b c AllDone (λ h g. CommitWent session h g × (Commits session now h g × KeepsRows session now h g)) done
          (between_both b c (CommitWent session) (λ h g. Commits session now h g × KeepsRows session now h g) went
          (between_both b c (Commits session now) (KeepsRows session now) commits rows));
      refuses = tt;
      ends = ends;
      cause = caused;
    })

pub commit_refused : (limit : ℕ) (state : LogState) (threshold : ℕ) (session : Session) (Q : History → History → Type 0) (fault : WriteFault)
    (a b c : Option Told)
    (n m k : ℕ) → Between b c (KeepsOrCommits session) → Between b c (BringsNone session) → Between b c (OnlyAppends session) → Between b c KeepsPlain
    → Between b c TellsNothing → (fault ≡ Writes.Numbers → AreUsedUp session.last) → RoseWhere (write_failed fault) m k
    → FailedWhere (write_failed fault) b c
    → Did (EachRun state (chosen_in threshold state.extents)) (Written limit state (chosen_in threshold state.extents) session) (RefusesRun state) a b n m
    (Ok tt)
    → Did (EachRun state (chosen_in threshold state.extents)) Q (RefusesRun state) a c n k (Err (write_fault fault))
commit_refused limit state threshold session Q fault a b c n m k keeps brings appends plain untold used caused ends p =
    let chosen = chosen_in threshold state.extents in
    let went = commit_went session b c keeps brings appends plain untold in
    did_stopped (EachRun state chosen) (Written limit state chosen session) (RefusesRun state) (CommitWent session) (λ h g. ⊥) (λ f. CommitWent session)
    (EachRun state chosen) Q (RefusesRun state) a b c n m k (write_fault fault)
    (λ h g i run d written step log opens.
    let stands = written log opens in
    run_then state.transaction chosen log h g i (known_blobs state log h opens) (run log opens) d stands.so
    (commit_next limit state threshold log session h g i opens stands step))
    (λ h g i run written step log opens.
    let stands = written log opens in
    write_refused state.transaction session fault g i used step.appends (entries_in log) (moved_in log chosen) stands.writing)
    p
    (record {
      each = went;
      end = tt;
      refuses = went;
      ends = fail_where (compact_failed (write_fault fault)) (write_failed fault) b c (write_is fault) ends;
      cause = rose_where (compact_failed (write_fault fault)) (write_failed fault) m k (write_is fault) caused;
    })

-- ---- the removals

removal_rests : (name : Name) (file : Option (List ℕ)) (numbers : List ℕ) (h : History) → plain_in h name ≡ rests_at file
    → EachMoment (λ g. plain_in g name ≡ rests_at file) h (map RemoveOf numbers)
removal_rests name file [] h e = e
removal_rests name file (n ∷ numbers) h e = (
  e,
  plain_next h (RemoveOf n) false name ∙ e,
  removal_rests name file numbers (with_act (RemoveOf n) true h) (plain_next h (RemoveOf n) true name ∙ e),
)

removal_lines : (numbers : List ℕ) → AllByRecursion TellsNoLine (map RemoveOf numbers)
removal_lines [] = tt
removal_lines (n ∷ numbers) = (tt, removal_lines numbers)

removal_next : (limit : ℕ) (state : LogState) (threshold : ℕ) (log : List Located) (h g i : History) → OpensAs state log h
    → Closed limit state (chosen_in threshold state.extents) log h g → StopsIn (map RemoveOf (chosen_in threshold state.extents)) g i
    → Next state.transaction (chosen_in threshold state.extents) log h g i
removal_next limit state threshold log h g i opens closed stop =
    let t = state.transaction in
    let chosen = chosen_in threshold state.extents in
    let steps = map RemoveOf chosen in
    record {
      live = stop_moments (EachStop (ShowsLive log)) steps g i
          (removal_live log closed.back t closed.end chosen chosen [] g refl closed.tail (chosen_rise threshold state log h opens)
          (opens_ordered state log h opens) (chosen_low threshold state log h opens) closed.removing) stop;
      gains = λ e.
          stop_moments (Gains g (IsPutAmong (entries_in log))) steps g i
          (removal_gains g (IsPutAmong (entries_in log)) chosen g (own_gains g (IsPutAmong (entries_in log)) (closed.traced e))) stop;
      removes = record { written = g; stay = λ n le. refl; removes = stop };
      plain = λ name file e.
          stop_moments (λ k. plain_in k name ≡ rests_at file) steps g i (removal_rests name file chosen g e) stop;
      untold = (stop_moments (TellsNothing g) steps g i (untold_each g g steps (removal_lines chosen) refl) stop).last;
    }

removed_all : (limit : ℕ) (state : LogState) (threshold : ℕ) (log : List Located) (h g i : History) → OpensAs state log h
    → Closed limit state (chosen_in threshold state.extents) log h g → DoesAll (map RemoveOf (chosen_in threshold state.extents)) g i
    → MovesAll limit log state.transaction (chosen_in threshold state.extents) h i
removed_all limit state threshold log h g i opens closed does =
    let t = state.transaction in
    let chosen = chosen_in threshold state.extents in
    let tail = moved_in log chosen ++ CommitEntry ∷ [] in
    let all = removing_all log closed.back t closed.end chosen [] g (chosen_low threshold state log h opens) closed.removing in
    let left : ShowsAt (files_now i) closed.end (Some (left_in log chosen ++ tail)) =
    subst (λ (es : List LogEntry). ShowsAt (files_now i) closed.end (Some (left_in log chosen ++ es))) closed.tail
    (subst (λ (k : History). ShowsAt (files_now k) closed.end (Some (left_in log chosen ++ entries_in closed.back))) (sym does)
    (removing_shown log closed.back t closed.end chosen (with_steps (map RemoveOf chosen) g) all)) in
    record {
      written = g;
      end = closed.end;
      last = closed.removing.last;
      end_is = closed.removing.end_is;
      filled = closed.filled;
      shown = closed.shown;
      stay = closed.so.stays;
      removes = does;
      left = left;
      live = shows_live log (files_now i) closed.end (left_in log chosen ++ tail) left
          (λ key.
          ap (λ (c : List ℕ). live_after key None (left_in log chosen ++ (moved_in log c ++ CommitEntry ∷ []))) (sym (append-nil chosen))
          ∙ moved_live key log chosen [] (subst Rising (sym (append-nil chosen)) (chosen_rise threshold state log h opens)) (opens_ordered state log h opens));
    }

removal_refuses : (fault : WriteFault) (files : Files) → (fault ≡ Writes.Numbers → ⊥) → RefusesCompact files (write_fault fault)
removal_refuses Writes.Device files off = tt
removal_refuses Writes.Memory files off = tt
removal_refuses Writes.Numbers files off = absurd (off refl)

pub removal_did : (limit : ℕ) (state : LogState) (threshold : ℕ) (a b c : Option Told) (n m k : ℕ)
    → Ran {T = Unit {0}} (map RemoveOf (chosen_in threshold state.extents)) b c m k (Ok tt)
    → Did (EachRun state (chosen_in threshold state.extents)) (IsClosed limit state (chosen_in threshold state.extents)) (RefusesRun state) a b n m (Ok tt)
    → Did (EachRun state (chosen_in threshold state.extents)) (MovedAll limit state (chosen_in threshold state.extents)) (RefusesRun state) a c n k (Ok tt)
removal_did limit state threshold a b c n m k ran p =
    let chosen = chosen_in threshold state.extents in
    let steps = map RemoveOf chosen in
    did_then (EachRun state chosen) (IsClosed limit state chosen) (RefusesRun state) (StopsIn steps) (DoesAll steps) (λ f h g. ⊥)
    (EachRun state chosen) (MovedAll limit state chosen) (RefusesRun state) a b c n m k (Ok tt)
    (λ h g i run d closed stop log opens.
    run_then state.transaction chosen log h g i (known_blobs state log h opens) (run log opens) d (closed log opens).so
    (removal_next limit state threshold log h g i opens (closed log opens) stop))
    (λ h g i run d closed does log opens. removed_all limit state threshold log h g i opens (closed log opens) does)
    (λ fault h g i run closed no log opens. absurd no)
    p
    (record {
      each = between_map b c (DoesAll steps) (StopsIn steps) (clears_stop steps) ran.runs;
      end = between_map b c (DoesAll steps) (λ h g. AllDone h g × DoesAll steps h g) (λ h g does. ((steps, does), does)) ran.runs;
      refuses = tt;
      ends = ran.ends;
      cause = ran.cause;
    })

pub removal_refused : (limit : ℕ) (state : LogState) (threshold : ℕ) (Q : History → History → Type 0) (fault : WriteFault) (a b c : Option Told) (n m k : ℕ)
    → (fault ≡ Writes.Numbers → ⊥) → Ran {T = Unit {0}} (map RemoveOf (chosen_in threshold state.extents)) b c m k (Err fault)
    → Did (EachRun state (chosen_in threshold state.extents)) (IsClosed limit state (chosen_in threshold state.extents)) (RefusesRun state) a b n m (Ok tt)
    → Did (EachRun state (chosen_in threshold state.extents)) Q (RefusesRun state) a c n k (Err (write_fault fault))
removal_refused limit state threshold Q fault a b c n m k off ran p =
    let chosen = chosen_in threshold state.extents in
    let steps = map RemoveOf chosen in
    did_stopped (EachRun state chosen) (IsClosed limit state chosen) (RefusesRun state) (StopsIn steps) (λ h g. ⊥) (λ f. StopsIn steps)
    (EachRun state chosen) Q (RefusesRun state) a b c n m k (write_fault fault)
    (λ h g i run d closed stop log opens.
    run_then state.transaction chosen log h g i (known_blobs state log h opens) (run log opens) d (closed log opens).so
    (removal_next limit state threshold log h g i opens (closed log opens) stop))
    (λ h g i run closed stop log opens. removal_refuses fault (files_now i) off)
    p
    (record {
      each = ran.runs;
      end = tt;
      refuses = ran.runs;
      ends = fail_where (compact_failed (write_fault fault)) (write_failed fault) b c (write_is fault) ran.ends;
      cause = rose_where (compact_failed (write_fault fault)) (write_failed fault) m k (write_is fault) ran.cause;
    })
