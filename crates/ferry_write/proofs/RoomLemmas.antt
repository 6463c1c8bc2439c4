-- Lemmas on specs/Room.antt: where an entry begins, and the scripts of entries.
use Rattle.std.proofs.Common.{◌≡◌, inl, inr, ℕ, ◌+◌, ◌^◌, ◌<◌, ◌≤◌, nat_lt, Bool, true, false, ◌&&◌, List, [], ◌++◌, Option, Some, None}
use Rattle.std.proofs.Common.{Result, Ok, Err}
use Rattle.std.proofs.Common.{IsErrOf, refl, sym, ◌∙◌, ap, subst, arith}
use Rattle.std.proofs.lemmas.Bool.{cases_lt, lt-ltb}
use Rattle.ferry_disk.specs.Act.{Step}
use Rattle.ferry_disk.specs.Device.{Told}
use Rattle.ferry_disk.specs.Moments.{Between}
use Rattle.ferry_write.specs.Room.{is_full, must_begin, room_of, room_steps, after_entry}
use Rattle.ferry_write.specs.Script.{StopsIn, Ran}
use Rattle.ferry_write.specs.declared.fault.WriteFault.{WriteFault}
use Rattle.ferry_write.specs.declared.fault.WriteFault.TheVariants.{Device, Memory, Numbers}
use Rattle.ferry_write.specs.declared.room.Room.{Room}
use Rattle.ferry_write.specs.declared.session.Session.{Session}
use Rattle.ferry_write.proofs.ScriptLemmas.{none_ran, ran_then}

pub not_full_fits : (at limit more : ℕ) → is_full at limit more ≡ false → limit < 2 ^ 64 → more ≤ 20971520 → at + more < 2 ^ 64
not_full_fits at limit more e lim small = elim (cases_lt 8 at) [
  | inr le ↦ omega (arith, le, small)
  | inl lt ↦ elim (cases_lt limit (at + more)) [
    | inr le ↦ omega (arith, le, lim)
    | inl over ↦
        let a : nat_lt 8 at ≡ true = lt-ltb 8 at lt in
        let b : nat_lt limit (at + more) ≡ true = lt-ltb limit (at + more) over in
        let full : is_full at limit more ≡ true = ap (λ (x : Bool). x && nat_lt limit (at + more)) a ∙ b in
        absurd (let no : ⊥ = cc in no)
  ]
]

kept_room : (last size : Option ℕ) (segment at limit more : ℕ) → last ≡ Some segment → size ≡ Some at → is_full at limit more ≡ false
    → room_steps last size (must_begin last size limit more) ≡ []
kept_room None size segment at limit more e d f = absurd (let no : ⊥ = cc in no)
kept_room (Some l) None segment at limit more e d f = absurd (let no : ⊥ = cc in no)
kept_room (Some l) (Some s) segment at limit more e d f =
    let same : s ≡ at = cc in ap (room_steps (Some l) (Some s)) (ap (λ (k : ℕ). is_full k limit more) same ∙ f)

pub kept_room_ran : {T : Type 0} (last size : Option ℕ) (segment at limit more : ℕ) (told : Option Told) (n : ℕ) (x : T) → last ≡ Some segment
    → size ≡ Some at → is_full at limit more ≡ false → Ran (room_steps last size (must_begin last size limit more)) told told n n (Ok x)
kept_room_ran last size segment at limit more told n x e d f =
    subst (λ (s : List Step). Ran s told told n n (Ok x)) (sym (kept_room last size segment at limit more e d f)) (none_ran told n x)

stops_first : (s : List Step) (told : Option Told) → Between told told (StopsIn s)
stops_first s None = tt
stops_first s (Some t) = (t, refl, record { front = []; rest = s; parts = refl; now_is = inl refl })

-- a fault that isn't the device's, before any step
pub no_step_ran : {T U : Type 0} (s : List Step) (told : Option Told) (n : ℕ) (fault : WriteFault) → (IsErrOf {T = U} (Err fault) Device → ⊥)
    → Ran {T = T} s told told n n (Err fault)
no_step_ran s told n Device off = absurd (off refl)
no_step_ran s told n Memory off = record { runs = stops_first s told; ends = refl; cause = refl }
no_step_ran s told n Numbers off = record { runs = stops_first s told; ends = refl; cause = refl }

-- what is written behind the room that was made
pub in_room : {U : Type 0} (s : List Step) (f : ℕ → List Step) (r q : Room) (a b c : Option Told) (n m k : ℕ) (result : Result U WriteFault) → r ≡ q
    → Ran s a b n m (Ok r) → Ran (f r.segment) b c m k result → Ran (s ++ f q.segment) a c n k result
in_room {U} s f r q a b c n m k result e p w =
    ran_then s (f q.segment) a b c n m k r result p (subst (λ (x : Room). Ran {T = U} (f x.segment) b c m k result) e w)

-- the session behind an entry of a size, which was written in the room for one of that size
pub takes_entry : (old new : Session) (room : Room) (more size : ℕ) → new ≡ record old { last = Some room.segment; size = Some (room.at + more) }
    → room ≡ room_of old size → size ≡ more → new ≡ after_entry old more
takes_entry old new room more size is room_is size_is =
    is
    ∙ (ap (λ (r : Room). record old { last = Some r.segment; size = Some (r.at + more) }) room_is
    ∙ ap (λ (k : ℕ). record old { last = Some (room_of old k).segment; size = Some ((room_of old k).at + more) }) size_is)
