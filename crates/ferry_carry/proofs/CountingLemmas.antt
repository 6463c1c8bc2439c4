-- Lemmas on specs/Counting.antt: the numbers of names, and of names behind them.
use Rattle.std.proofs.Common.{◌≡◌, ℕ, suc, Bool, true, false, if◌then◌else◌, List, [], ◌∷◌, ◌++◌, refl, sym, subst, arith, min, ◌^◌, ◌-◌, append_assoc}
use Rattle.std.proofs.Common.{◌+◌}
use Rattle.std.proofs.lemmas.List.{append-nil}
use Rattle.ferry_manifest.specs.Manifest.Text.{ManifestText}
use Rattle.ferry_piece.proofs.PutsLemmas.{bytes_append, count_append}
use Rattle.ferry_carry.proofs.ThereLemmas.{Extends, tells_behind}
use Rattle.ferry_carry.specs.Counting.{CountsMore, CountsNames, CountsOf, TellsNew, nothing_carried}
use Rattle.ferry_piece.specs.Puts.{Addition, Content, Stream, put_bytes, put_count}
use Rattle.ferry_carry.specs.declared.options.Carried.{Carried}

counts_up : (new : Bool) (copied more others : ℕ) → copied ≡ (if new then suc more else more)
    → copied + others ≡ (if new then suc (more + others) else more + others)
counts_up true copied more others is = omega (arith, is)
counts_up false copied more others is = omega (arith, is)

counts_down : (new : Bool) (present more others : ℕ) → present ≡ (if new then more else suc more)
    → present + others ≡ (if new then more + others else suc (more + others))
counts_down true present more others is = omega (arith, is)
counts_down false present more others is = omega (arith, is)

counts_both : (accepted : ManifestText) (before names others : List (List ℕ)) (copied present more rest : ℕ)
    → CountsNames accepted before names copied present → CountsNames accepted (before ++ names) others more rest
    → CountsNames accepted before (names ++ others) (copied + more) (present + rest)
counts_both accepted before [] others copied present more rest none q =
    let up : more ≡ copied + more = omega (arith, none.0) in
    let down : rest ≡ present + rest = omega (arith, none.1) in
    subst (λ (n : ℕ). CountsNames accepted before others n (present + rest)) up
    (subst (λ (n : ℕ). CountsNames accepted before others more n) down
    (subst (λ (b : List (List ℕ)). CountsNames accepted b others more rest) (append-nil before) q))
counts_both accepted before (name ∷ names) others copied present more rest p q = (
  p.0,
  (
    p.1.0,
    (
      p.1.1.0 + more,
      (
        p.1.1.1.0 + rest,
        (
          counts_both accepted (before ++ name ∷ []) names others p.1.1.0 p.1.1.1.0 more rest p.1.1.1.1.0
              (subst (λ (b : List (List ℕ)). CountsNames accepted b others more rest) (sym (append_assoc before (name ∷ []) names)) q),
          (
            counts_up p.0 copied p.1.1.0 more p.1.1.1.1.1.0,
            counts_down p.0 present p.1.1.1.0 rest p.1.1.1.1.1.1,
          ),
        ),
      ),
    ),
  ),
)

counts_behind : (accepted middle : ManifestText) (some before names : List (List ℕ)) (copied present : ℕ) → Extends accepted some middle
    → CountsNames middle before names copied present → CountsNames accepted (some ++ before) names copied present
counts_behind accepted middle some before [] copied present extends counts = counts
counts_behind accepted middle some before (name ∷ names) copied present extends p = (
  p.0,
  (
    tells_behind accepted middle some before name p.0 extends p.1.0,
    (
      p.1.1.0,
      (
        p.1.1.1.0,
        (
          subst (λ (b : List (List ℕ)). CountsNames accepted b names p.1.1.0 p.1.1.1.0) (sym (append_assoc some before (name ∷ [])))
              (counts_behind accepted middle some (before ++ name ∷ []) names p.1.1.0 p.1.1.1.0 extends p.1.1.1.1.0),
          p.1.1.1.1.1,
        ),
      ),
    ),
  ),
)

-- the numbers of some names, and behind them those of others
pub counts_then : (accepted middle : ManifestText) (some others : List (List ℕ)) (added more : List Addition) (carried between after : Carried)
    → Extends accepted some middle → CountsMore accepted some added carried between → CountsMore middle others more between after
    → CountsMore accepted (some ++ others) (added ++ more) carried after
counts_then accepted middle some others added more carried between after extends p q = record {
  copied = p.copied + q.copied;
  present = p.present + q.present;
  names = counts_both accepted [] some others p.copied p.present q.copied q.present p.names
      (subst (λ (b : List (List ℕ)). CountsNames accepted b others q.copied q.present) (append-nil some)
      (counts_behind accepted middle some [] others q.copied q.present extends q.names));
  transferred_is = omega (arith, p.transferred_is, q.transferred_is);
  present_is = omega (arith, p.present_is, q.present_is);
  put = record {
    chunks = omega (arith, p.put.chunks, q.put.chunks, count_append Content added more);
    bytes = omega (arith, p.put.bytes, q.put.bytes, bytes_append Content added more);
    meta = omega (arith, p.put.meta, q.put.meta, count_append Stream added more);
  };
}

-- nothing was put
pub counts_nothing : CountsOf [] nothing_carried
unfolding put_count put_bytes
counts_nothing = record { chunks = refl; bytes = refl; meta = refl }

-- those of no name
pub counts_none : (accepted : ManifestText) → CountsMore accepted [] [] nothing_carried nothing_carried
counts_none accepted = record {
  copied = 0;
  present = 0;
  names = (refl, refl);
  transferred_is = refl;
  present_is = refl;
  put = counts_nothing;
}

-- those of one
pub counts_one : (accepted : ManifestText) (name : List ℕ) (added : List Addition) (copied : Bool) (put carried after : Carried)
    → TellsNew accepted [] name copied → CountsOf added put
    → after.transferred ≡ min (carried.transferred + (if copied then 1 else 0)) (2 ^ 64 - 1)
    → after.present ≡ min (carried.present + (if copied then 0 else 1)) (2 ^ 64 - 1) → after.chunks ≡ min (carried.chunks + put.chunks) (2 ^ 64 - 1)
    → after.bytes ≡ min (carried.bytes + put.bytes) (2 ^ 128 - 1) → after.meta ≡ min (carried.meta + put.meta) (2 ^ 64 - 1)
    → CountsMore accepted (name ∷ []) added carried after
counts_one accepted name added copied put carried after new counts transferred present chunks bytes meta = record {
  copied = if copied then 1 else 0;
  present = if copied then 0 else 1;
  names = (copied, (new, (0, (0, ((refl, refl), (refl, refl))))));
  transferred_is = transferred;
  present_is = present;
  put = record {
    chunks = omega (arith, chunks, counts.chunks);
    bytes = omega (arith, bytes, counts.bytes);
    meta = omega (arith, meta, counts.meta);
  };
}
