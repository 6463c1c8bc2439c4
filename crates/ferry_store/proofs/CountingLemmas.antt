-- Lemmas on specs/Counting.antt: one more entry, and a commit.
use Rattle.std.proofs.Common.{◌≡◌, ◌+◌, ℕ, List, [], ◌∷◌, ◌++◌, Option, unwrap_or, sym, ◌∙◌, ap, subst, append_assoc, arith}
use Rattle.std.proofs.lemmas.List.{append-nil}
use Rattle.ferry_disk.specs.Files.{Files}
use Rattle.ferry_segment.specs.Entry.{LogEntry, CommitEntry}
use Rattle.ferry_store.specs.Counting.{IsNext, blocks_in, blocks_of}
use Rattle.ferry_write.specs.Session.{with_commit}

blocks_more : (entries : List LogEntry) (entry : LogEntry) → blocks_in (entries ++ entry ∷ []) ≡ blocks_in entries + blocks_of entry
unfolding blocks_in
blocks_more [] entry = omega arith
blocks_more (e ∷ entries) entry = let rest = blocks_more entries entry in omega (arith, rest)

next_more : (free behind : ℕ) (entries : List LogEntry) (entry : LogEntry) (start : Files) → free + blocks_of entry ≡ behind
    → IsNext free entries start → IsNext behind (entries ++ entry ∷ []) start
next_more free behind entries entry start is next = record {
  first = next.first;
  nonce = next.nonce;
  found = next.found;
  shown = next.shown;
  put = next.put ++ entry ∷ [];
  entries_are = ap (λ (es : List LogEntry). es ++ entry ∷ []) next.entries_are ∙ append_assoc (unwrap_or next.found []) next.put (entry ∷ []);
  free_is = (let more = blocks_more next.put entry in let before = next.free_is in omega (arith, is, before, more));
}

pub next_none : (free : ℕ) → free ≡ free + blocks_in []
unfolding blocks_in
next_none free = omega arith

-- an entry is put
pub next_put : (free behind : ℕ) (committed : Option (List LogEntry)) (pending : List LogEntry) (entry : LogEntry) (start now : Files) → now ≡ start
    → free + blocks_of entry ≡ behind → IsNext free (unwrap_or committed [] ++ pending) start
    → IsNext behind (unwrap_or committed [] ++ (pending ++ entry ∷ [])) now
next_put free behind committed pending entry start now same is next =
    subst (λ (es : List LogEntry). IsNext behind es now) (append_assoc (unwrap_or committed []) pending (entry ∷ []))
    (subst (IsNext behind ((unwrap_or committed [] ++ pending) ++ entry ∷ [])) (sym same)
    (next_more free behind (unwrap_or committed [] ++ pending) entry start is next))

-- all is committed that was put
pub next_committed : (free : ℕ) (committed : Option (List LogEntry)) (pending : List LogEntry) (start now : Files) → now ≡ start
    → IsNext free (unwrap_or committed [] ++ pending) start → IsNext free (unwrap_or (with_commit committed pending) [] ++ []) now
next_committed free committed pending start now same next =
    subst (λ (es : List LogEntry). IsNext free es now) (sym (append-nil ((unwrap_or committed [] ++ pending) ++ CommitEntry ∷ [])))
    (subst (IsNext free ((unwrap_or committed [] ++ pending) ++ CommitEntry ∷ [])) (sym same)
    (next_more free free (unwrap_or committed [] ++ pending) CommitEntry start (omega arith) next))
