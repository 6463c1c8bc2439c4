use Rattle.std.proofs.Common.{Ok, sym, subst}
use Rattle.ferry_keyblob.specs.Opening.{key_view}
use Rattle.ferry_repo.specs.Opening.{IsRefusal, opened_text}
use Rattle.ferry_repo.proofs.FaultLemmas.{gives_err}
use Rattle.ferry_repo.proofs.OpeningLemmas.{text_opens, text_refuses}
use Rattle.ferry_repo.proofs.opening.open_text.Goals as goal

pub returns-in_err-key-clause-refused : goal.returns-in_err-key-clause-refused
returns-in_err-key-clause-refused c =
    let text = c.args.text.now in
    let pass = c.args.passphrase.now in
    gives_err c.from_residual-in_err-key.result _ _ c.from_residual-in_err-key.ensures.1 (λ f is.
    subst (IsRefusal (opened_text pass text)) (sym is)
    (text_refuses pass text c.in_ok-envelope.envelope c.in_err-key.field-0.0 c.in_ok-envelope.ensures.envelope c.in_err-key.ensures.fault))

pub returns-clause-opened : goal.returns-clause-opened
returns-clause-opened c =
    text_opens c.args.passphrase.now c.args.text.now c.in_ok-envelope.envelope (Ok (key_view c.in_ok-key.key)) c.in_ok-envelope.ensures.envelope
    c.in_ok-key.ensures.key
