-- Lemmas for the call that tells whether a choice describes an image.
use Rattle.std.proofs.Common.{◌≡◌, ℕ, ◌≤◌, ◌<◌, Bool, true, false, ◌↔◌, IsTrue, List, length, take, refl, sym, ◌∙◌, ap, subst, arith}
use Rattle.std.proofs.Common.{Option, Some, None, option_map, Vec}
use Rattle.std.specs.Global.{Global}
use Rattle.std.proofs.lemmas.List.{take-map, length-map}
use Rattle.ferry_disk.specs.Act.{Act, History}
use Rattle.ferry_disk.specs.Acts.{act_of, acts_of}
use Rattle.ferry_disk.specs.Choice.{moment_of, MayList, Describes, segment_left}
use Rattle.ferry_disk.specs.Files.{Files}
use Rattle.ferry_disk.specs.Image.{fate_of, MayLeave, settled}
use Rattle.ferry_disk.specs.Sizes.{cut_acts, AllowsTails}
use Rattle.ferry_disk.specs.declared.act.Act.{Act as ActGiven}
use Rattle.ferry_disk.specs.declared.choice.Choice.{Choice}
use Rattle.ferry_disk.proofs.ChoiceLemmas.{describes_some, describes_listed}
use Rattle.ferry_disk.proofs.SizesLemmas.{allow_may, may_allow}

listed_back : (o : Option (Option (Vec ℕ Global))) (listed : Option (List ℕ)) → option_map (λ tail. option_map (λ v. v.items) tail) o ≡ Some listed
    → (tail : Option (Vec ℕ Global)) × (o ≡ Some tail) × (listed ≡ option_map (λ v. v.items) tail)
listed_back None listed e = absurd (let no : ⊥ = cc in no)
listed_back (Some tail) listed e = (tail, refl, (cc))

-- a run of these acts
abbrev pub run_of : Files → List Act → List ActGiven → History
run_of start past acts = record { start = start; past = past; acts = acts_of acts }

module _ (choice : Choice) (start : Files) (past : List Act) (acts : List ActGiven) where
  abbrev run : History
  run = run_of start past acts

  abbrev kept : List Act
  kept = cut_acts choice.cut (acts_of (take choice.acts acts))

  kept_is : kept ≡ moment_of choice run.acts
  kept_is = ap (cut_acts choice.cut) (sym (take-map act_of choice.acts acts))

  pub too_many : length acts < choice.acts → IsTrue false ↔ ((image : Files) × Describes choice run image)
  too_many more = (
    (λ t. absurd (let no : ⊥ = cc in no)),
    (λ p. absurd (let most : choice.acts ≤ length run.acts = p.1.moment in omega (arith, more, most, length-map acts act_of))),
  )

  pub unsettled_described : choice.acts ≤ length acts → settled kept ≡ false → IsTrue true ↔ ((image : Files) × Describes choice run image)
  unsettled_described within s = (
    (λ t. describes_some choice run (omega (arith, within, length-map acts act_of))
        (λ now. absurd (let e : settled kept ≡ true = ap settled kept_is ∙ now in let no : ⊥ = cc in no))),
    (λ p. refl),
  )

  pub allowed_described : (result : Bool) → choice.acts ≤ length acts → settled kept ≡ true
      → IsTrue result ↔ AllowsTails start kept choice.tails.items → IsTrue result ↔ ((image : Files) × Describes choice run image)
  allowed_described result within s both = (
    (λ t. describes_some choice run (omega (arith, within, length-map acts act_of))
        (λ now. listed (subst (λ m. AllowsTails start m choice.tails.items) kept_is (both.0 t)))),
    (λ p. both.1 (subst (λ m. AllowsTails start m choice.tails.items) (sym kept_is) (allowed p))),
  ) where
    listed : AllowsTails start (moment_of choice run.acts) choice.tails.items → MayList choice start (moment_of choice run.acts)
    listed allows q l e =
        let f = fate_of start (moment_of choice run.acts) q in
        let b = listed_back _ l e in
        subst (λ x. MayLeave f (segment_left choice.took f (Some x))) (sym b.2) (allow_may choice.took f (option_map (λ v. v.items) b.0) (allows q b.0 b.1))

    allowed : (image : Files) × Describes choice run image → AllowsTails start (moment_of choice run.acts) choice.tails.items
    allowed p q tail e =
        let f = fate_of start (moment_of choice run.acts) q in
        may_allow choice.took f (option_map (λ v. v.items) tail)
        (describes_listed choice run p.0 p.1 (ap settled (sym kept_is) ∙ s) q (option_map (λ v. v.items) tail)
        (ap (option_map (λ t. option_map (λ v. v.items) t)) e))
