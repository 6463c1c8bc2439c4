use Rattle.std.proofs.Common.{◌≡◌, ◌<◌, true, false, ℕ, List, Some, length, refl, sym, ◌∙◌, ap, subst, arith}
use Rattle.std.proofs.lemmas.List.{take_all}
use Rattle.std.proofs.lemmas.Option.{slice_get_read}
use Rattle.std.proofs.lemmas.Slice.Eq.{bytes_eq-Decides}
use Rattle.std.specs.Str.{bytes_eq}
use Rattle.ferry_carry.proofs.CutLemmas.{among_none}
use Rattle.ferry_piece.specs.Gather.{IsAmong}
use Rattle.ferry_plan.proofs.PresentLemmas.{among_not}
use Rattle.ferry_plan.proofs.present.is_among.Goals as goal

pub loop-place-init : goal.loop-place-init
loop-place-init c = λ among. among_none c.args.name.now among

pub returns-then-eq : goal.returns-then-eq
returns-then-eq c =
    let names = c.args.names.now in
    let place = c.loop-place.place in
    let at = c.index-names-place in
    let is : bytes_eq c.as_slice.result.now c.args.name.now ≡ true = sym c.eq.ensures ∙ c.if-eq.true in
    let same : at.result ≡ c.args.name.now = sym c.as_slice.ensures ∙ (bytes_eq-Decides c.as_slice.result.now c.args.name.now).0 is in
    record {
      among = (
        λ yes. (place, slice_get_read names (length names) place at.result refl (omega arith) at.is ∙ ap Some same),
        λ among. refl,
      );
    }

pub loop-place-preserved : goal.loop-place-preserved
loop-place-preserved c among =
    let names = c.args.names.now in
    let place = c.loop-place.place in
    let at = c.index-names-place in
    let lt : place < length names = omega arith in
    let other : bytes_eq c.as_slice.result.now c.args.name.now ≡ false = sym c.eq.ensures ∙ c.if-eq.false in
    let apart : at.result ≡ c.args.name.now → ⊥ =
    λ same. (let is : bytes_eq c.as_slice.result.now c.args.name.now ≡ true =
    (bytes_eq-Decides c.as_slice.result.now c.args.name.now).1 (c.as_slice.ensures ∙ same) in let never : ⊥ = cc in never) in
    among_not names place at.result c.args.name.now lt at.is c.loop-place.invariant apart among

pub returns : goal.returns
returns c =
    record {
      among = (
        λ yes. absurd (let never : ⊥ = cc in never),
        λ among. absurd (c.loop-place.invariant
            (subst (λ (names : List (List ℕ)). IsAmong names c.args.name.now) (sym (take_all c.loop-place.place c.args.names.now (omega arith))) among)),
      );
    }
