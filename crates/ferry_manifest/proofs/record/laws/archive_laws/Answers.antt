use Rattle.ferry_fields.proofs.KeptLemmas.{value_of-without}
use Rattle.ferry_manifest.specs.Record.Text.{apart_names}
use Rattle.ferry_manifest.specs.declared.fault.MetaFault.TheVariants.{TagMissing, TooLarge, Memory}
use Rattle.ferry_manifest.proofs.Records.LawLemmas.{read_packable, record_says, says_record, pack_says, says_pack, field_says, says_field, other_says}
use Rattle.ferry_manifest.proofs.Records.LawLemmas.{says_other, record_among, record_either, tagged, untagged, ids_are, are_ids, fields_apart}
use Rattle.ferry_manifest.proofs.record.laws.archive_laws.Goals as goal

pub returns-clause-archive : goal.returns-clause-archive
returns-clause-archive c =
    λ keys bytes archive. (
      record_says keys bytes archive,
      λ (all, is, whole, right, text). says_record keys bytes archive all is whole right text,
    )

pub returns-clause-packable : goal.returns-clause-packable
returns-clause-packable c = read_packable

pub returns-clause-tagged : goal.returns-clause-tagged
returns-clause-tagged c = tagged

pub returns-clause-untagged : goal.returns-clause-untagged
returns-clause-untagged c = untagged

pub returns-clause-pack : goal.returns-clause-pack
returns-clause-pack c = λ keys bytes. (pack_says keys bytes, says_pack keys bytes)

pub returns-clause-field : goal.returns-clause-field
returns-clause-field c = λ keys bytes. (field_says keys bytes, λ (all, is, lacks). says_field keys bytes all is lacks)

pub returns-clause-tag : goal.returns-clause-tag
returns-clause-tag c =
    λ keys bytes. (other_says keys bytes, λ (all, hmac, salt, is, whole, states, differs). says_other keys bytes all hmac salt is whole states differs)

pub returns-clause-either : goal.returns-clause-either
returns-clause-either c = record_either

pub returns-clause-missing : goal.returns-clause-missing
returns-clause-missing c = λ keys bytes e. record_among keys bytes TagMissing e

pub returns-clause-large : goal.returns-clause-large
returns-clause-large c = λ keys bytes e. record_among keys bytes TooLarge e

pub returns-clause-memory : goal.returns-clause-memory
returns-clause-memory c = λ keys bytes e. record_among keys bytes Memory e

pub returns-clause-ids : goal.returns-clause-ids
returns-clause-ids c = λ items ids. (ids_are items ids, λ (is, sized). are_ids items ids is sized)

pub returns-clause-kept : goal.returns-clause-kept
returns-clause-kept c = λ pairs name other. value_of-without apart_names name pairs other

pub returns-clause-apart : goal.returns-clause-apart
returns-clause-apart c = fields_apart
