use Rattle.std.proofs.Common.{◌≡◌, ◌≤◌, ◌+◌, ◌-◌, ◌*◌, ℕ, List, length, take, drop, refl, sym, ◌∙◌, ap, subst, arith}
use Rattle.std.proofs.lemmas.List.{length-drop, length-take-le}
use Rattle.std.specs.List.{AllByRecursion}
use Rattle.ferry_item.specs.declared.item.ChunkRef.{ChunkRef}
use Rattle.ferry_repo.specs.Shared.{chunks_from, total_size}
use Rattle.ferry_repo.proofs.shared.shared_at.Goals as goal

pub returns : goal.returns
returns c =
    let note = c.args.note.now in
    let here = c.args.here in
    let count = c.args.count in
    let chunks = c.args.chunks.now in
    let m = c.in-Some.measure in
    let own = chunks_from chunks here.place (here.place + count) in
    let pieces = c.in-Some-whole_pieces.pieces.now in
    let known = c.in-Some-whole_pieces.ensures in
    let made : c.new-pieces.result ≡ pieces = c.new-pieces.ensures.chunks ∙ c.in_ok-from_slice.ensures.items in
    let many : length c.new-pieces.result ≡ m.count = ap length made ∙ known.count in
    let width : (here.place + count) - here.place ≡ (here.at + count) - here.at = omega arith in
    let long : length own ≡ (here.place + count) - here.place =
    length-take-le ((here.place + count) - here.place) (drop here.place chunks) (omega (arith, length-drop here.place chunks, c.requires.own)) in
    record {
      shared = record {
        at = here.at;
        first = m.first;
        least = c.in-Some.ensures.least;
        many = subst (λ (n : ℕ). 1 ≤ n) (sym many) known.some;
        some = omega (arith, c.requires.some);
        within = c.requires.own;
        same = c.if-not-same_chunks.ensures refl
            ∙ (ap (λ (cs : List ChunkRef). take ((here.at + count) - here.at) (drop here.at cs)) c.as_slice-others.ensures.chunks
            ∙ ap (λ (n : ℕ). take n (drop here.at note.chunks)) (sym width));
        pieces = made ∙ (known.pieces ∙ ap (λ (n : ℕ). take n (drop m.first note.pieces)) (sym many));
        whole = subst (AllByRecursion (λ (piece : ChunkRef). piece.size ≡ note.block)) (sym made) known.whole;
        begins = subst (λ (n : ℕ). n + m.skip ≡ m.first * note.block) c.requires.at c.in-Some.ensures.begins;
        covers = subst (λ (n : ℕ). m.skip + n * note.block + m.left ≡ total_size own) (sym many) c.in-Some.ensures.covers;
        front = c.in-Some.ensures.front;
        behind = subst (λ (n : ℕ). m.left ≤ total_size (drop (n - 1) own)) long c.in-Some.ensures.behind;
      };
    }
