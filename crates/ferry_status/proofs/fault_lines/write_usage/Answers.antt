use Rattle.std.proofs.Common.{◌≡◌, ◌++◌, OnOk, OnErr, option_map, subst, ◌∙◌}
use Rattle.ferry_disk.specs.Device.{WritesSome}
use Rattle.ferry_status.proofs.fault_lines.write_usage.Goals as goal

pub returns-in-Ok-clause-ok : goal.returns-in-Ok-clause-ok
returns-in-Ok-clause-ok g c = subst
    (λ k. OnOk c.write.result (g.K.Sink.written c.write.new.self ≡ option_map (λ w. w ++ k) (g.K.Sink.written c.args.out.now)))
    (c.as_bytes.ensures.value ∙ c.in-Ok.ensures.ok) c.write.ensures.ok

pub returns-in-Ok-clause-err : goal.returns-in-Ok-clause-err
returns-in-Ok-clause-err g c = subst (λ k. OnErr c.write.result (WritesSome (g.K.Sink.written c.args.out.now) k (g.K.Sink.written c.write.new.self)))
    (c.as_bytes.ensures.value ∙ c.in-Ok.ensures.ok) c.write.ensures.err
