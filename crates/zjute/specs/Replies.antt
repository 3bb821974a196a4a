-- Replies: a header (`ReplyHeader` of zookeeper.jute), and the record after it.
use Rattle.std.specs.Prelude.{ℤ, pos, ℕ, List, [], ◌++◌, None, false}
use Rattle.std.specs.List.{flat_map}
use Rattle.zjute.specs.declared.code.Code.{Code}
use Rattle.zjute.specs.declared.code.Code.TheVariants as code
use Rattle.zjute.specs.declared.reply.PartResult.{PartResult}
use Rattle.zjute.specs.declared.reply.PartResult.TheVariants as result
use Rattle.zjute.specs.declared.reply.Body.{Body}
use Rattle.zjute.specs.declared.reply.Body.TheVariants as body
use Rattle.zjute.specs.declared.reply.Reply.{Reply}
use Rattle.zjute.specs.Jute.{neg, int, long, buffer, text, texts}
use Rattle.zjute.specs.Stats.{stat}
use Rattle.zjute.specs.Requests.{acls}
use Rattle.zjute.specs.Codes.{code_number}
use Rattle.zjute.specs.Parts.{header_fields, end_header}

-- a code as its number
abbrev pub code_text : Code → List ℕ
code_text c = int.spell (code_number c)

-- `ReplyHeader`
abbrev pub header_text : ℤ → ℤ → Code → List ℕ
header_text xid zxid c = int.spell xid ++ (long.spell zxid ++ code_text c)

-- ---- the results of a multi's parts

-- the kind of each result, and its error
abbrev pub result_number : PartResult → ℤ
result_number (result.Error c) = neg 1
result_number (result.Create path) = pos 1
result_number result.Delete = pos 2
result_number (result.GetData bytes s) = pos 4
result_number (result.SetData s) = pos 5
result_number (result.GetChildren names) = pos 8
result_number result.Check = pos 13
result_number (result.Create2 path s) = pos 15
result_number (result.CreateTtl path s) = pos 21

abbrev pub result_code : PartResult → Code
result_code (result.Error c) = c
result_code (result.Create path) = code.Ok
result_code result.Delete = code.Ok
result_code (result.GetData bytes s) = code.Ok
result_code (result.SetData s) = code.Ok
result_code (result.GetChildren names) = code.Ok
result_code result.Check = code.Ok
result_code (result.Create2 path s) = code.Ok
result_code (result.CreateTtl path s) = code.Ok

-- the record after its header
abbrev pub result_body : PartResult → List ℕ
result_body (result.Error c) = code_text c
result_body (result.Create path) = text.spell path
result_body result.Delete = []
result_body (result.GetData bytes s) = buffer.spell bytes ++ stat.spell s
result_body (result.SetData s) = stat.spell s
result_body (result.GetChildren names) = texts.spell names
result_body result.Check = []
result_body (result.Create2 path s) = text.spell path ++ stat.spell s
result_body (result.CreateTtl path s) = text.spell path ++ stat.spell s

-- a result after its `MultiHeader`
abbrev pub result_text : PartResult → List ℕ
result_text r =
    header_fields.spell (result_number r, (false, code_number (result_code r))) ++ result_body r

-- `MultiResponse`: the results, and the last header
abbrev pub results_text : List PartResult → List ℕ
results_text results = flat_map result_text results ++ header_fields.spell end_header

-- ---- replies

-- the record after the header
abbrev pub body_text : Body → List ℕ
body_text body.Nothing = []
body_text (body.Error c) = code_text c
body_text (body.Path path) = text.spell path
body_text (body.PathStat path s) = text.spell path ++ stat.spell s
body_text (body.Stat s) = stat.spell s
body_text (body.DataStat bytes s) = buffer.spell bytes ++ stat.spell s
body_text (body.Names names) = texts.spell names
body_text (body.NamesStat names s) = texts.spell names ++ stat.spell s
body_text (body.AclsStat entries s) = acls.spell entries ++ stat.spell s
body_text (body.Number n) = int.spell n
body_text (body.Client scheme id) = int.spell (pos 1) ++ (text.spell scheme ++ text.spell id)
body_text body.NoToken = buffer.spell None
body_text (body.Results results) = results_text results

unfoldable pub reply_text : Reply → List ℕ
reply_text r = header_text r.xid r.zxid r.code ++ body_text r.body
