use Rattle.std.proofs.Common.{◌≡◌, ◌+◌, ◌-◌, ◌*◌, ◌^◌, take}
use Rattle.ferry_disk.specs.Acts.{acts_of}
use Rattle.ferry_disk.specs.Sizes.{sizes_after, IsWithin}
use Rattle.ferry_disk.proofs.sizes.after_acts.Given as goal

-- the sizes after the acts so far, which are small enough for one act more
abbrev pub invariant-loop-i : goal.invariant-loop-i
invariant-loop-i l = record {
  is : l.sizes ≡ sizes_after l.fn.size (acts_of (take l.i l.acts)) l.segment;
  within : IsWithin ((l.i + 1) * (2 ^ 64 - 1)) l.sizes;
}
