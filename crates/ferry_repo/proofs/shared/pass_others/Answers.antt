use Rattle.std.proofs.Common.{◌≡◌, ◌+◌, ◌-◌, ℕ, take, drop, refl, sym, ◌∙◌, ap, arith}
use Rattle.ferry_repo.specs.Shared.{total_size}
use Rattle.ferry_repo.proofs.SharedLemmas.{size_to}
use Rattle.ferry_repo.proofs.shared.pass_others.Goals as goal

pub returns-then-sum-lt340282366920938463463374607431768211455 :
    goal.returns-then-sum-lt340282366920938463463374607431768211455
returns-then-sum-lt340282366920938463463374607431768211455 c =
    let at = c.args.cursor.now.at in
    let count = c.args.count in
    let others = c.args.others.now in
    let parts = size_to at count others in
    let one : (at + count) - at ≡ count = omega arith in
    let passed : total_size (take ((at + count) - at) (drop at others)) ≡ total_size (take count (drop at others)) =
    ap (λ (n : ℕ). total_size (take n (drop at others))) one in
    record {
      at = omega (
        arith,
        parts,
        passed,
        c.requires.at,
        c.total_size-passed.ensures.total,
        c.saturating_add-sum.ensures,
        c.if-sum-lt340282366920938463463374607431768211455.true,
      );
    }
