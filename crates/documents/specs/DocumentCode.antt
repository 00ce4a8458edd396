-- The code of stored documents, as a model's value needs one.
use Rattle.std.specs.Prelude.{refl}
use Rattle.std.specs.Coded.{Coded, code_by}
use Rattle.serde_json.specs.Data.{Data}
use Rattle.jsondoc.specs.DataCode.{coded_data}
use Rattle.documents.specs.Document.{Document}

abbrev pub coded_document : Coded Document
coded_document = code_by Data coded_data (λ d. d.json) (λ d. record { json = d }) (λ _. refl)
