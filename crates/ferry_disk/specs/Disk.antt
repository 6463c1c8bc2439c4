-- The depot in memory: what each of its calls leaves of it.
use Rattle.std.specs.Prelude.{◌≡◌, ℕ, Bool, true, false, if◌then◌else◌, List, [], ◌∷◌, ◌++◌, Option, None, Result, Ok, Err, refl}
use Rattle.std.specs.Coded.{Coded, code_by, coded×, coded_ℕ, coded_list, coded_option}
use Rattle.ferry_disk.specs.Files.{Files}
use Rattle.ferry_disk.specs.Act.{Step, Act, History, stepped, with_act, coded_history}
use Rattle.ferry_disk.specs.Calls.{Device, fails, will_fail, after_call}
use Rattle.ferry_disk.specs.Device.{Told, counted, first_failed}
use Rattle.ferry_disk.specs.declared.shelf.StoreFault.{StoreFault}
use Rattle.ferry_disk.specs.declared.shelf.StoreFault.TheVariants as Store

-- a depot in memory
pub record Disk : Type 0 where
  pub history : History
  pub failing : List ℕ
  pub calls : ℕ
  pub faults : ℕ
  -- the number of the first call that failed
  pub failed : Option ℕ

-- a depot of these files at the start, these acts, and a shelf that has what they make of the start
abbrev pub disk_of : Files → List Act → List Act → Device → Disk
disk_of start past acts shelf = record {
  history = record { start = start; past = past; acts = acts };
  failing = shelf.failing;
  calls = shelf.calls;
  faults = shelf.faults;
  failed = shelf.failed;
}

-- a depot whose run begins
abbrev pub begun : History → List ℕ → Disk
begun history failing = record { history = history; failing = failing; calls = 0; faults = 0; failed = None }

-- what it tells
abbrev pub disk_told : Disk → Told
disk_told disk = record { history = disk.history; calls = disk.calls; failed = disk.failed }

-- whether its next call fails
abbrev pub disk_fails : Disk → Bool
disk_fails disk = fails disk.failing disk.calls

-- the same depot after one more call that does nothing
abbrev pub disk_counted : Bool → Disk → Disk
disk_counted fault disk = record disk {
  calls = counted disk.calls;
  faults = if fault then counted disk.faults else disk.faults;
  failed = if fault then first_failed disk.failed (counted disk.calls) else disk.failed;
}

-- the same depot after a call that reads
abbrev pub disk_read : Disk → Disk
disk_read disk = disk_counted (disk_fails disk) disk

-- the same depot after one more act
abbrev pub disk_acted : Step → Bool → Disk → Disk
disk_acted step true disk = record (disk_counted false disk) { history = with_act step true disk.history }
disk_acted step false disk = record (disk_counted true disk) { history = with_act step false disk.history }

-- A call that writes adds its act, done where the call isn't listed and not done where it is. For want of memory it adds nothing.
abbrev pub Recorded : {T : Type 0} → Step → Disk → Disk → Result T StoreFault → Type 0
Recorded step old new (Ok _) = (new ≡ disk_acted step true old) × (disk_fails old ≡ false)
Recorded step old new (Err Store.Failed) = (new ≡ disk_acted step false old) × (disk_fails old ≡ true)
Recorded step old new (Err Store.Memory) = new ≡ disk_counted false old

-- The same of a shelf and a list of acts that make a depot together.
abbrev pub Notes : Step → Device → List Act → Device → List Act → Result (Unit {0}) StoreFault → Type 0
Notes step shelf acts after now (Ok _) = (after ≡ record shelf { files = stepped shelf.files step; calls = counted shelf.calls })
    × (now ≡ acts ++ record { step = step; done = true } ∷ []) × (will_fail shelf ≡ false)
Notes step shelf acts after now (Err Store.Failed) =
    (after ≡ after_call shelf) × (now ≡ acts ++ record { step = step; done = false } ∷ []) × (will_fail shelf ≡ true)
Notes step shelf acts after now (Err Store.Memory) = (after ≡ record shelf { calls = counted shelf.calls }) × (now ≡ acts)

abbrev pub coded_disk : Coded Disk
coded_disk = code_by (History × (List ℕ × (ℕ × (ℕ × Option ℕ))))
    (coded× coded_history (coded× (coded_list coded_ℕ) (coded× coded_ℕ (coded× coded_ℕ (coded_option coded_ℕ)))))
    (λ d. (d.history, (d.failing, (d.calls, (d.faults, d.failed)))))
    (λ p. record { history = p.0; failing = p.1.0; calls = p.1.1.0; faults = p.1.1.1.0; failed = p.1.1.1.1 })
    (λ _. refl)
