-- The file that a request reads beside the text.
use Rattle.std.specs.Prelude.{Option, Some, None}
use Rattle.flow_requests.specs.declared.SecondFile.{SecondFile}
use Rattle.flow_requests.specs.declared.SecondFile.TheVariants.{Absent, Certificate, Start, StartOrCertificate}

-- the file, where there is one
abbrev pub file_in : {F : Type 0} → SecondFile F → Option F
file_in Absent = None
file_in (Start file) = Some file
file_in (Certificate file) = Some file
file_in (StartOrCertificate file) = Some file
