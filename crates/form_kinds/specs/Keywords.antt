-- The words with which statements of the third kind begin.
use Rattle.std.specs.Prelude.{Bool, if◌then◌else◌, Option, Some, None, length, drop, codes, nat_eq}
use Rattle.std.specs.List.{starts_with}
use Rattle.f77_expr.specs.Spelling.{Text}
use Rattle.form_kinds.specs.declared.keywords.Keyword.{Keyword}
use Rattle.form_kinds.specs.declared.keywords.Keyword.TheVariants as word

abbrev pub spelling : Keyword → Text
spelling word.Implicit = codes "IMPLICIT"
spelling word.ImplicitNone = codes "IMPLICITNONE"
spelling word.Integer = codes "INTEGER"
spelling word.Logical = codes "LOGICAL"
spelling word.Dimension = codes "DIMENSION"
spelling word.Common = codes "COMMON"
spelling word.Parameter = codes "PARAMETER"
spelling word.External = codes "EXTERNAL"
spelling word.Intrinsic = codes "INTRINSIC"
spelling word.Save = codes "SAVE"
spelling word.Data = codes "DATA"
spelling word.ElseIf = codes "ELSEIF"
spelling word.Else = codes "ELSE"
spelling word.EndIf = codes "ENDIF"
spelling word.End = codes "END"
spelling word.GoTo = codes "GOTO"
spelling word.Continue = codes "CONTINUE"
spelling word.Return = codes "RETURN"
spelling word.Stop = codes "STOP"
spelling word.Call = codes "CALL"
spelling word.Print = codes "PRINT"
spelling word.Read = codes "READ"

abbrev pub begins : Keyword → Text → Bool
begins w text = starts_with nat_eq text (spelling w)

-- what stands behind the word
abbrev pub behind : Keyword → Text → Text
behind w text = drop (length (spelling w)) text

-- The word with which a text begins. No two of them begin a text together but for ELSEIF and ELSE, ENDIF and END,
-- IMPLICITNONE and IMPLICIT, of which it is the longer.
abbrev pub keyword_of : Text → Option Keyword
keyword_of text =
    if begins word.ImplicitNone text then Some word.ImplicitNone else (if begins word.Implicit text then Some word.Implicit else (if begins word.Integer text then Some word.Integer else (
    if begins word.Logical text then Some word.Logical else (if begins word.Dimension text then Some word.Dimension else (if begins word.Common text then Some word.Common else (
    if begins word.Parameter text then Some word.Parameter else (if begins word.External text then Some word.External else (if begins word.Intrinsic text then Some word.Intrinsic else (
    if begins word.Save text then Some word.Save else (if begins word.Data text then Some word.Data else (if begins word.ElseIf text then Some word.ElseIf else (
    if begins word.Else text then Some word.Else else (if begins word.EndIf text then Some word.EndIf else (if begins word.End text then Some word.End else (
    if begins word.GoTo text then Some word.GoTo else (if begins word.Continue text then Some word.Continue else (if begins word.Return text then Some word.Return else (
    if begins word.Stop text then Some word.Stop else (if begins word.Call text then Some word.Call else (if begins word.Print text then Some word.Print else (
    if begins word.Read text then Some word.Read else None)))))))))))))))))))))
