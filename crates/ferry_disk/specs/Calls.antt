-- The devices in memory: their calls are numbered from 1, and those whose numbers are listed fail, no other.
use Rattle.std.specs.Prelude.{ℕ, List, Bool, Option, if◌then◌else◌, nat_eq, refl}
use Rattle.std.specs.List.{list_any}
use Rattle.std.specs.Coded.{Coded, code_by, coded×, coded_ℕ, coded_list, coded_option}
use Rattle.ferry_disk.specs.Files.{Files, coded_files}
use Rattle.ferry_disk.specs.Act.{untouched}
use Rattle.ferry_disk.specs.Device.{Told, counted, first_failed}

-- whether the next call fails: its number is listed
abbrev pub fails : List ℕ → ℕ → Bool
fails failing calls = list_any (λ number. nat_eq number (counted calls)) failing

-- a shelf or a depot in memory
pub record Device : Type 0 where
  pub files : Files
  pub failing : List ℕ
  pub calls : ℕ
  pub faults : ℕ
  -- the number of the first call that failed
  pub failed : Option ℕ

-- whether its next call fails
abbrev pub will_fail : Device → Bool
will_fail device = fails device.failing device.calls

-- the same device after a call that changes no file
abbrev pub after_call : Device → Device
after_call device = record device {
  calls = counted device.calls;
  faults = if will_fail device then counted device.faults else device.faults;
  failed = if will_fail device then first_failed device.failed (counted device.calls) else device.failed;
}

-- what it tells
abbrev pub told_by : Device → Told
told_by device = record { history = untouched device.files; calls = device.calls; failed = device.failed }

abbrev pub coded_device : Coded Device
coded_device = code_by (Files × (List ℕ × (ℕ × (ℕ × Option ℕ))))
    (coded× coded_files (coded× (coded_list coded_ℕ) (coded× coded_ℕ (coded× coded_ℕ (coded_option coded_ℕ)))))
    (λ d. (d.files, (d.failing, (d.calls, (d.faults, d.failed)))))
    (λ p. record { files = p.0; failing = p.1.0; calls = p.1.1.0; faults = p.1.1.1.0; failed = p.1.1.1.1 })
    (λ _. refl)

-- a sink in memory
pub record Written : Type 0 where
  pub bytes : List ℕ
  pub failing : List ℕ
  pub calls : ℕ
  pub faults : ℕ

abbrev pub coded_written : Coded Written
coded_written = code_by (List ℕ × (List ℕ × (ℕ × ℕ)))
    (coded× (coded_list coded_ℕ) (coded× (coded_list coded_ℕ) (coded× coded_ℕ coded_ℕ)))
    (λ d. (d.bytes, (d.failing, (d.calls, d.faults))))
    (λ p. record { bytes = p.0; failing = p.1.0; calls = p.1.1.0; faults = p.1.1.1 })
    (λ _. refl)
