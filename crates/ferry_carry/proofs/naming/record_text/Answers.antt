use Rattle.std.proofs.Common.{◌≡◌, ◌<◌, ◌∙◌, ℕ, length, rules, subst, sym}
use Rattle.ferry_base.specs.Limits.{content_limit}
use Rattle.ferry_carry.proofs.LengthLemmas.{record_length}
use Rattle.ferry_carry.proofs.naming.record_text.Goals as goal
use Rattle.ferry_manifest.specs.Record.Text.{archive_view}

pub returns-in-Err-TooLarge-clause-refused : goal.returns-in-Err-TooLarge-clause-refused
returns-in-Err-TooLarge-clause-refused c = record {
  reads = search rules;
  small = search rules;
  refused = λ salt size.
      let own : length c.args.salt.now ≡ 64 = search rules in
      let large = c.in-Err-TooLarge.ensures.large (λ is. let no : ⊥ = cc in no) in
      subst (λ (n : ℕ). content_limit < n) (record_length c.args.keys.now c.args.salt.now salt (archive_view c.args.archive.now) (own ∙ sym size)) large.1;
  nothing = search rules;
}
