-- Lemmas on specs/Counter.antt: what is answered of the file `nonce` is what the file says.
use Rattle.std.proofs.Common.{◌≡◌, ℕ, Bool, List, [], length, Option, Some, None}
use Rattle.std.proofs.Common.{unwrap_or, option_map, IfSome, Result, Ok, Err, refl, sym, ◌∙◌, ap, subst, arith}
use Rattle.ferry_disk.specs.Act.{History, files_now}
use Rattle.ferry_disk.specs.Device.{Told, told_files}
use Rattle.ferry_disk.specs.Files.{file_at, contents_at}
use Rattle.ferry_disk.specs.Image.{plain_in}
use Rattle.ferry_disk.specs.declared.name.Name.TheVariants.{Nonce}
use Rattle.ferry_disk.proofs.DeviceLemmas.{told_any}
use Rattle.ferry_disk.proofs.ImageLemmas.{plain_read, nonce_plain}
use Rattle.ferry_stops.specs.Counters.{IsNonce}
use Rattle.ferry_nonce.specs.Counter.{CounterFits, HasNoNumber, IsExactly, IsReserved, Reads, ReadsFile, file_size}
use Rattle.ferry_nonce.specs.Text.{number_in}
use Rattle.ferry_nonce.specs.declared.counter.Counter.{Counter}
use Rattle.ferry_nonce.specs.declared.fault.NonceFault.{NonceFault}
use Rattle.ferry_nonce.specs.declared.fault.NonceFault.TheVariants.{Missing, Text, Exhausted, Device, Memory}
use Rattle.ferry_nonce.proofs.MomentLemmas.{counts_reserved}
use Rattle.ferry_nonce.proofs.TextLemmas.{none_read, read_spells, spelled_read}

-- ---- a file of another size

size_of_file : (file : Option (List ℕ)) (size : ℕ) → option_map length file ≡ Some size → length (unwrap_or file []) ≡ size
size_of_file None size e = absurd (let no : ⊥ = cc in no)
size_of_file (Some text) size e = let same : length text ≡ size = cc in same

pub wrong_size : (told : Option Told) (size : ℕ) → (size ≡ 16 → ⊥) → (size ≡ 17 → ⊥)
    → IfSome told (λ t. file_size (told_files t) ≡ Some size → Reads (contents_at (told_files t) Nonce) (Err Text))
wrong_size told size a b =
    told_any told (λ files. file_size files ≡ Some size → Reads (contents_at files Nonce) (Err Text))
    (λ files e. let long : length (contents_at files Nonce) ≡ size = size_of_file files.nonce size e in
    none_read (contents_at files Nonce) (λ f. a (sym long ∙ f)) (λ f. b (sym long ∙ f)))

-- ---- a counter that opened

number_is : (committed : Bool) (file : Option (List ℕ)) (number : ℕ) → ReadsFile committed file (Ok number) → IsNonce file number
number_is committed None number r = r.1
number_is committed (Some text) number r = read_spells text number r

reserved_at_rest : (number : ℕ) (history : History) → IsNonce (file_at (files_now history) Nonce) number → (plain_in history Nonce).perhaps ≡ None
    → IsReserved number history
reserved_at_rest number history is rest = record {
  file = (plain_in history Nonce).read;
  at_rest = ap (λ (p : Option (List ℕ)). record { read = (plain_in history Nonce).read; perhaps = p }) rest;
  nonce = subst (λ (o : Option (List ℕ)). IsNonce o number) (plain_read history.start history.acts Nonce nonce_plain) is;
}

opens_fits : (committed : Bool) (counter : Counter) (t : Told) → counter.reserved ≡ counter.free
    → ReadsFile committed (file_at (told_files t) Nonce) (Ok counter.free) → (plain_in t.history Nonce).perhaps ≡ None → CounterFits counter t.history
opens_fits committed counter t same r rest =
    let number = number_is committed (file_at (told_files t) Nonce) counter.free r in
    let reserved : IsReserved counter.free t.history = reserved_at_rest counter.free t.history number rest in
    record {
      reserved = subst (λ (n : ℕ). IsReserved n t.history) (sym same) reserved;
      free = counts_reserved counter.free counter.free t.history (omega arith) reserved;
    }

-- ---- exactly where

text_ok : {T : Type 0} (committed : Bool) (file : Option (List ℕ)) (number : ℕ) (value : T) → ReadsFile committed file (Ok number)
    → IsExactly (Ok value) Text (HasNoNumber file)
text_ok committed file number value r answered =
    (λ e. absurd (let no : ⊥ = cc in no), λ none. absurd (none number (number_is committed file number r)))

text_err : {T : Type 0} (committed : Bool) (file : Option (List ℕ)) (fault : NonceFault) → ReadsFile committed file (Err fault)
    → IsExactly {T = T} (Err fault) Text (HasNoNumber file)
text_err committed (Some text) Text r answered =
    (λ e value spells. let found : number_in text ≡ Some value = spelled_read text value spells in let no : ⊥ = cc in no, λ none. refl)
text_err committed None Missing r answered =
    (λ e. absurd (let no : ⊥ = cc in no), λ none. absurd (none 0 refl))
text_err committed None Device r answered = absurd answered
text_err committed None Memory r answered = absurd answered
text_err committed (Some text) Device r answered = absurd answered
text_err committed (Some text) Memory r answered = absurd answered
text_err committed None Text r answered = absurd r
text_err committed None Exhausted r answered = absurd r
text_err committed (Some text) Missing r answered = absurd r
text_err committed (Some text) Exhausted r answered = absurd r

-- ---- over what a device tells

-- what was read of the file that a device tells
abbrev pub WasRead : Bool → Option Told → Result ℕ NonceFault → Type 0
WasRead committed told result = IfSome told (λ t. ReadsFile committed (file_at (told_files t) Nonce) result)

pub opened_told : (committed : Bool) (told : Option Told) (number : ℕ) → WasRead committed told (Ok number)
    → IfSome told (λ t. IsNonce (file_at (told_files t) Nonce) number)
opened_told committed None number r = tt
opened_told committed (Some t) number r = number_is committed (file_at (told_files t) Nonce) number r

pub fits_told : (committed : Bool) (told : Option Told) (counter : Counter) → counter.reserved ≡ counter.free → WasRead committed told (Ok counter.free)
    → IfSome told (λ t. (plain_in t.history Nonce).perhaps ≡ None → CounterFits counter t.history)
fits_told committed None counter same r = tt
fits_told committed (Some t) counter same r = opens_fits committed counter t same r

pub text_ok_told : {T : Type 0} (committed : Bool) (told : Option Told) (number : ℕ) (value : T) → WasRead committed told (Ok number)
    → IfSome told (λ t. IsExactly (Ok value) Text (HasNoNumber (file_at (told_files t) Nonce)))
text_ok_told committed None number value r = tt
text_ok_told committed (Some t) number value r = text_ok committed (file_at (told_files t) Nonce) number value r

pub text_err_told : (committed : Bool) (told : Option Told) (fault : NonceFault) → WasRead committed told (Err fault)
    → IfSome told (λ t. IsExactly {T = Counter} (Err fault) Text (HasNoNumber (file_at (told_files t) Nonce)))
text_err_told committed None fault r = tt
text_err_told committed (Some t) fault r = text_err committed (file_at (told_files t) Nonce) fault r
