use Rattle.std.proofs.Common.{◌*◌, ◌-◌, arith}
use Rattle.ferry_mac.specs.Hmac.{hmac256}
use Rattle.ferry_mac.proofs.ManyLemmas.{window_more}
use Rattle.ferry_mac.proofs.mac_many.hmac256_many.Goals as goal

pub loop-window-preserved : goal.loop-window-preserved
loop-window-preserved c =
    let window = c.loop-window.window in
    let more = window_more (λ text. hmac256 c.args.key.now text.now) c.args.texts.now c.loop-window.macs c.macs_of_window.new.macs window
    (c.min-end.result - 64 * window) (omega arith) (omega arith) c.loop-window.invariant.size c.loop-window.invariant.macs
    c.macs_of_window.ensures.macs in
    record { size = more.0; macs = more.1 }
