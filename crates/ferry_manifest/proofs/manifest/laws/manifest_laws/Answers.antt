use Rattle.ferry_manifest.proofs.PlaceLemmas.{one_place, tag_first, zeroed-is}
use Rattle.ferry_manifest.proofs.TagLemmas.{tag_stands, tag_replaced}
use Rattle.ferry_manifest.proofs.Manifests.OrderLemmas.{in_order-increasing, in_order-same}
use Rattle.ferry_manifest.proofs.Manifests.LawLemmas.{tagged, pack_says, says_pack, field_says, says_field, missing_says, says_missing, other_says, says_other}
use Rattle.ferry_manifest.proofs.Manifests.LawLemmas.{read_packable, read_says, says_read, either, apart, no_large, no_memory}
use Rattle.ferry_manifest.proofs.manifest.laws.manifest_laws.Goals as goal

pub returns-clause-place : goal.returns-clause-place
returns-clause-place c = one_place

pub returns-clause-stands : goal.returns-clause-stands
returns-clause-stands c = tag_stands

pub returns-clause-other : goal.returns-clause-other
returns-clause-other c = tag_replaced

pub returns-clause-first : goal.returns-clause-first
returns-clause-first c = tag_first

pub returns-clause-zeroed : goal.returns-clause-zeroed
returns-clause-zeroed c = zeroed-is

pub returns-clause-packable : goal.returns-clause-packable
returns-clause-packable c = read_packable

pub returns-clause-tagged : goal.returns-clause-tagged
returns-clause-tagged c = tagged

pub returns-clause-missing : goal.returns-clause-missing
returns-clause-missing c = λ keys bytes. (missing_says keys bytes, λ (all, is, whole, none). says_missing keys bytes all is whole none)

pub returns-clause-tag : goal.returns-clause-tag
returns-clause-tag c =
    λ keys bytes. (other_says keys bytes, λ (all, hmac, salt, is, whole, states, differs). says_other keys bytes all hmac salt is whole states differs)

pub returns-clause-large : goal.returns-clause-large
returns-clause-large c = no_large

pub returns-clause-memory : goal.returns-clause-memory
returns-clause-memory c = no_memory

pub returns-clause-increasing : goal.returns-clause-increasing
returns-clause-increasing c = in_order-increasing

pub returns-clause-same : goal.returns-clause-same
returns-clause-same c = in_order-same

pub returns-clause-pack : goal.returns-clause-pack
returns-clause-pack c = λ keys bytes. (pack_says keys bytes, says_pack keys bytes)

pub returns-clause-field : goal.returns-clause-field
returns-clause-field c = λ keys bytes. (field_says keys bytes, λ (all, is, lacks). says_field keys bytes all is lacks)

pub returns-clause-ok : goal.returns-clause-ok
returns-clause-ok c = λ keys bytes manifest. (read_says keys bytes manifest, says_read keys bytes manifest)

pub returns-clause-either : goal.returns-clause-either
returns-clause-either c = either

pub returns-clause-apart : goal.returns-clause-apart
returns-clause-apart c = apart
