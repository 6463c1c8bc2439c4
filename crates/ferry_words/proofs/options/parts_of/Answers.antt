use Rattle.std.proofs.Common.{◌+◌, string_bytes, refl, sym, arith}
use Rattle.ferry_words.specs.Options.{options_of}
use Rattle.ferry_words.proofs.PlaceLemmas.{end_place, ended_place, last_place, old_place, plain_place, taken_place, untaken_place}
use Rattle.ferry_words.proofs.options.parts_of.Goals as goal
use Rattle.ferry_words.proofs.options.parts_of.Goals.{else-loop-at-test, then-loop-at-test+else-eq+then-not-is_option}

pub returns-then-eq-clause-parts : goal.returns-then-eq-clause-parts
returns-then-eq-clause-parts c =
    ended_place (options_of c.args.options) string_bytes c.args.behind.now c.loop-at.at c.index-behind-at.result c.as_str-word.result.now
    c.loop-at-test.true c.index-behind-at.is c.as_str-word.ensures.value c.loop-at.invariant.left (sym c.if-eq.ensures)

pub returns-then-not-is_new-clause-wrong : goal.returns-then-not-is_new-clause-wrong
returns-then-not-is_new-clause-wrong c = (
  c.loop-at.at + 2,
  refl,
  old_place (options_of c.args.options) string_bytes c.args.behind.now c.loop-at.at c.index-behind-at.result c.as_str-word.result.now
      c.loop-at-test.true c.index-behind-at.is c.as_str-word.ensures.value c.loop-at.invariant.left
      (sym c.if-eq.ensures) (sym c.if-not-is_option.ensures) (sym c.if-not-is_new.ensures.new),
)

pub returns-then-at-behind-clause-wrong : goal.returns-then-at-behind-clause-wrong
returns-then-at-behind-clause-wrong c = (
  c.loop-at.at + 3,
  refl,
  last_place (options_of c.args.options) string_bytes c.args.behind.now c.loop-at.at c.index-behind-at.result c.as_str-word.result.now
      c.loop-at-test.true c.index-behind-at.is c.as_str-word.ensures.value c.loop-at.invariant.left
      (sym c.if-eq.ensures) (sym c.if-not-is_option.ensures) (sym c.if-not-is_new.ensures.new) c.if-at-behind.true,
)

pub returns-then-not-takes-clause-wrong : goal.returns-then-not-takes-clause-wrong
returns-then-not-takes-clause-wrong c = (
  c.loop-at.at + 3,
  refl,
  untaken_place (options_of c.args.options) string_bytes c.args.behind.now c.loop-at.at c.index-behind-at.result c.as_str-word.result.now
      c.index-behind-at-in-loop-at.result c.as_str.result.now
      (omega (arith, c.loop-at-test.true, c.if-at-behind.false)) c.index-behind-at.is c.as_str-word.ensures.value
      c.index-behind-at-in-loop-at.is c.as_str.ensures.value c.loop-at.invariant.left
      (sym c.if-eq.ensures) (sym c.if-not-is_option.ensures) (sym c.if-not-is_new.ensures.new) (sym c.if-not-takes.ensures.taken),
)

pub loop-at-preserved : goal.loop-at-preserved
loop-at-preserved c = record {
  within = omega (arith, c.loop-at-test.true, c.if-at-behind.false);
  left =
      taken_place (options_of c.args.options) string_bytes c.args.behind.now c.loop-at.at c.index-behind-at.result c.as_str-word.result.now
      c.index-behind-at-in-loop-at.result c.as_str.result.now
      (omega (arith, c.loop-at-test.true, c.if-at-behind.false)) c.index-behind-at.is c.as_str-word.ensures.value
      c.index-behind-at-in-loop-at.is c.as_str.ensures.value c.loop-at.invariant.left
      (sym c.if-eq.ensures) (sym c.if-not-is_option.ensures) (sym c.if-not-is_new.ensures.new) (sym c.if-not-takes.ensures.taken);
}

pub returns-clause-parts : goal.returns-clause-parts
returns-clause-parts c = elim c.loop-at-test.branch [
  | else-loop-at-test w ↦
      end_place (options_of c.args.options) string_bytes c.args.behind.now c.loop-at.at c.loop-at.invariant.within
      (omega (arith, w.loop-at-test.false)) c.loop-at.invariant.left
  | then-loop-at-test+else-eq+then-not-is_option w ↦
      plain_place (options_of c.args.options) string_bytes c.args.behind.now c.loop-at.at w.index-behind-at.result w.as_str-word.result.now
      w.loop-at-test.true w.index-behind-at.is w.as_str-word.ensures.value c.loop-at.invariant.left
      (sym w.if-eq.ensures) (sym w.if-not-is_option.ensures)
]
