-- Lemmas on contents that are held: they add nothing.
use Rattle.std.proofs.Common.{◌∷◌, ◌++◌, [], ℕ, false, List, inl, inr, sym, subst, arith}
use Rattle.std.proofs.lemmas.List.{append_assoc, append-nil}
use Rattle.std.specs.BTreeSet.{BTreeSet}
use Rattle.std.specs.List.{AllByRecursion}
use Rattle.ferry_blob.specs.Blob.{content_id}
use Rattle.ferry_carry.proofs.KnownLemmas.{unput, unput_bytes, unput_count, unput_of}
use Rattle.ferry_log.specs.State.{LogState}
use Rattle.ferry_mac.specs.declared.keys.Keys.{Keys}
use Rattle.ferry_piece.proofs.PutsLemmas.{bytes_append, count_append}
use Rattle.ferry_piece.specs.Puts.{Addition, Content, addition}
use Rattle.ferry_plan.proofs.TallyLemmas.{contents_tallied, knows_known, knows_live}
use Rattle.ferry_plan.specs.Tally.{IsHeld, Knows, Takes, TalliesOn}
use Rattle.ferry_plan.specs.declared.pieces.Pieces.{Pieces}
use Rattle.ferry_plan.specs.declared.tally.Tally.{Tally}

held_one : (keys : Keys) (log : LogState) (known : BTreeSet (List ℕ)) (content : List ℕ) (added : List Addition)
    → IsHeld log known (content_id keys content) → Knows keys log known added → Knows keys log known (added ++ addition Content content false ∷ [])
held_one keys log known content added (inl live) k = knows_live keys log known Content content added live k
held_one keys log known content added (inr had) k = knows_known keys log known Content content added had k

held_all : (keys : Keys) (log : LogState) (known : BTreeSet (List ℕ)) (contents : List (List ℕ)) (added : List Addition)
    → AllByRecursion (λ (content : List ℕ). IsHeld log known (content_id keys content)) contents → Knows keys log known added
    → Knows keys log known (added ++ unput contents)
held_all keys log known [] added all k = subst (Knows keys log known) (sym (append-nil added)) k
held_all keys log known (content ∷ contents) added all k =
    subst (Knows keys log known) (append_assoc added (addition Content content false ∷ []) (unput contents))
    (held_all keys log known contents (added ++ addition Content content false ∷ []) all.1 (held_one keys log known content added all.0 k))

pub held_takes : (keys : Keys) (log : LogState) (known : BTreeSet (List ℕ)) (pieces : Pieces) (contents : List (List ℕ))
    → AllByRecursion (λ (content : List ℕ). IsHeld log known (content_id keys content)) contents
    → Takes Content keys log known pieces (unput contents) known pieces
held_takes keys log known pieces contents all = record {
  of = unput_of contents;
  knows = λ added k. held_all keys log known contents added all k;
  counts = λ added c. record {
    put_is = omega (arith, c.put_is, count_append Content added (unput contents), unput_count Content contents);
    bytes_are = omega (arith, c.bytes_are, bytes_append Content added (unput contents), unput_bytes Content contents);
  };
}

-- contents that are held leave a tally as it is
pub held_tallied : (keys : Keys) (log : LogState) (tally : Tally) (contents : List (List ℕ))
    → AllByRecursion (λ (content : List ℕ). IsHeld log tally.known (content_id keys content)) contents → TalliesOn keys log tally (unput contents) tally
held_tallied keys log tally contents all =
    contents_tallied keys log tally tally.known tally.contents (unput contents) (held_takes keys log tally.known tally.contents contents all)
