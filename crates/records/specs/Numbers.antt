-- The code's four numbers of a record are the definition's.
use Rattle.definition.specs.Records.{Fields as Said, fields}
use Rattle.records.specs.declared.Fields.{Fields}

abbrev pub numbers : Fields → Said
numbers f = fields f.kind f.reason f.id f.other
