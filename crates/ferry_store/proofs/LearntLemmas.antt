-- What is live by all that is written is committed, or learnt.
use Rattle.std.proofs.Common.{◌≡◌, ◌≢◌, ◌⊎◌, inl, inr, ℕ, Bool, true, false, cond, List, [], ◌++◌, Option, Some, IsSome, refl, sym, ◌∙◌, ap, subst}
use Rattle.std.specs.Cmp.{eq_by_cmp_equiv}
use Rattle.std.specs.Cmp.Lexicographic.{nat_list_cmp_total}
use Rattle.std.specs.FinMap.{get, get-insert}
use Rattle.std.specs.Ordering.{eq_by_cmp}
use Rattle.ferry_base.specs.Limits.{zero_id}
use Rattle.ferry_log.specs.Live.{key_cmp}
use Rattle.ferry_log.specs.State.{LogState, with_learnt}
use Rattle.ferry_log.specs.declared.place.Place.{Place}
use Rattle.ferry_segment.specs.Entry.{LogEntry, PutEntry}
use Rattle.ferry_store.proofs.LiveLemmas.{live_nil, live_other, same_or}
use Rattle.ferry_store.proofs.StandingLemmas.{entries_put}
use Rattle.ferry_store.specs.Standing.{committed_of, entries_of, live_in}
use Rattle.ferry_store.specs.State.{Written, with_entry}

-- Each chunk that is live by all that is written is so by what is committed, or is learnt by the log.
abbrev pub AllLearnt : Written → LogState → Type 0
AllLearnt written log = (id blob : List ℕ) → id ≢ zero_id → live_in id (entries_of written) ≡ Some blob
    → (live_in id (committed_of written) ≡ Some blob) ⊎ IsSome (get log.learnt id)

-- where nothing was put since the commit
pub learnt_nil : (written : Written) (log : LogState) → written.pending ≡ [] → AllLearnt written log
learnt_nil written log none id blob apart live =
    inl (sym (live_nil id (committed_of written)) ∙ (ap (λ (p : List LogEntry). live_in id (committed_of written ++ p)) (sym none) ∙ live))

-- an id that was learnt is learnt
pub learnt_here : (log : LogState) (id : List ℕ) (place : Place) → IsSome (get (with_learnt log id place).learnt id)
learnt_here log id place =
    let found = get-insert nat_list_cmp_total log.learnt id place id
    ∙ ap (λ (b : Bool). cond b (Some place) (get log.learnt id)) ((eq_by_cmp_equiv nat_list_cmp_total).refl id) in
    subst IsSome (sym found) refl

some_either : (place : Place) (b : Bool) (had : Option Place) → IsSome had → IsSome (cond b (Some place) had)
some_either place true had some = refl
some_either place false had some = some

-- what was learnt stays learnt
learnt_more : (log : LogState) (id other : List ℕ) (place : Place) → IsSome (get log.learnt other) → IsSome (get (with_learnt log id place).learnt other)
learnt_more log id other place some =
    subst IsSome (sym (get-insert nat_list_cmp_total log.learnt id place other))
    (some_either place (eq_by_cmp key_cmp other id) (get log.learnt other) some)

-- one more blob is put and learnt
pub learnt_put : (written : Written) (log : LogState) (id blob : List ℕ) (place : Place) → AllLearnt written log
    → AllLearnt (with_entry written (PutEntry id blob)) (with_learnt log id place)
learnt_put written log id blob place learnt other old apart live = by_id (same_or id other) where
  by_learnt : (live_in other (committed_of written) ≡ Some old) ⊎ IsSome (get log.learnt other)
      → (live_in other (committed_of written) ≡ Some old) ⊎ IsSome (get (with_learnt log id place).learnt other)
  by_learnt (inl committed) = inl committed
  by_learnt (inr some) = inr (learnt_more log id other place some)

  by_id : (other ≡ id) ⊎ (other ≢ id) → (live_in other (committed_of written) ≡ Some old) ⊎ IsSome (get (with_learnt log id place).learnt other)
  by_id (inl is) = inr (subst (λ (i : List ℕ). IsSome (get (with_learnt log id place).learnt i)) (sym is) (learnt_here log id place))
  by_id (inr differ) =
      by_learnt (learnt other old apart (sym (live_other id blob other (entries_of written) differ)
      ∙ (sym (ap (live_in other) (entries_put written (PutEntry id blob))) ∙ live)))
