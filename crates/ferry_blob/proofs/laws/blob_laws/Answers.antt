use Rattle.ferry_blob.proofs.BatchLemmas.{one_answer}
use Rattle.ferry_blob.proofs.BlobLemmas.{content_is, fault_short, opened_at, opens_no_fault}
use Rattle.ferry_blob.proofs.LawLemmas.{compressed_is, id_is, is_compressed, is_id, is_kind, is_mac, kind_is, mac_is, one_content, opens_zero, short_is}
use Rattle.ferry_blob.proofs.LawLemmas.{zero_unrefused}
use Rattle.ferry_blob.proofs.laws.blob_laws.Goals as goal

pub returns-clause-opens : goal.returns-clause-opens
returns-clause-opens c keys id blob content = (
  λ h. (opens_no_fault keys id blob content h, content_is keys id blob content h),
  λ h. opened_at keys id blob content h.0 h.1,
)

pub returns-clause-one : goal.returns-clause-one
returns-clause-one c = one_content

pub returns-clause-answer : goal.returns-clause-answer
returns-clause-answer c = one_answer

pub returns-clause-zero : goal.returns-clause-zero
returns-clause-zero c = opens_zero

pub returns-clause-unnamed : goal.returns-clause-unnamed
returns-clause-unnamed c = zero_unrefused

pub returns-clause-short : goal.returns-clause-short
returns-clause-short c keys id blob = (short_is keys id blob, fault_short keys id blob)

pub returns-clause-kind : goal.returns-clause-kind
returns-clause-kind c keys id blob = (kind_is keys id blob, λ h. is_kind keys id blob h.0 h.1 h.2)

pub returns-clause-mac : goal.returns-clause-mac
returns-clause-mac c keys id blob = (mac_is keys id blob, λ h. is_mac keys id blob h.0 h.1 h.2)

pub returns-clause-compressed : goal.returns-clause-compressed
returns-clause-compressed c keys id blob = (compressed_is keys id blob, λ h. is_compressed keys id blob h.0 h.1)

pub returns-clause-id : goal.returns-clause-id
returns-clause-id c keys id blob = (id_is keys id blob, λ h. is_id keys id blob h.0 h.1 h.2)
