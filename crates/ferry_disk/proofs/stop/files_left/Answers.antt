use Rattle.std.proofs.Common.{sym, ◌∙◌, ap}
use Rattle.ferry_disk.specs.Acts.{acts_of}
use Rattle.ferry_disk.specs.Memory.{files_of}
use Rattle.ferry_disk.specs.declared.name.Name.TheVariants.{Config, Nonce, Readme}
use Rattle.ferry_disk.proofs.ImageLemmas.{plain_read, config_plain, nonce_plain, readme_plain}
use Rattle.ferry_disk.proofs.StopLemmas.{after_settle}
use Rattle.ferry_disk.proofs.stop.files_left.Goals as goal

pub returns : goal.returns
returns c =
    let start = files_of c.args.start.now in
    let acts = acts_of c.args.moment.now in
    let image = files_of (record {
      config = c.in_ok-config.config;
      nonce = c.in_ok-nonce.nonce;
      readme = c.in_ok-readme.readme;
      segments = c.in_ok-segments.field-0.segments;
    }) in
    after_settle c.args.choice.now start image acts
    (sym c.any_settle.ensures ∙ c.if-not-any_settle.false) (record {
      config = c.in_ok-config.ensures start.config (ap (λ f. f.config) c.in_ok-read.ensures ∙ plain_read start acts Config config_plain);
      nonce = c.in_ok-nonce.ensures start.nonce (ap (λ f. f.nonce) c.in_ok-read.ensures ∙ plain_read start acts Nonce nonce_plain);
      readme = c.in_ok-readme.ensures start.readme (ap (λ f. f.readme) c.in_ok-read.ensures ∙ plain_read start acts Readme readme_plain);
      segments = c.in_ok-segments.ensures;
    })
