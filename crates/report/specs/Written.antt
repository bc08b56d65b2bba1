-- The text of a report.
use Rattle.std.specs.Prelude.{ℕ, cond, List, ◌++◌, codes}
use Rattle.text.specs.Digits.{digits}
use Rattle.layout.specs.declared.section.Section.TheVariants.{First, Second, Third, Fourth}
use Rattle.layout.specs.Texts.{section_text}
use Rattle.report.specs.declared.report.Report.{Report}
use Rattle.report.specs.Lawful.{is_nil}

-- the sections, one after the other
abbrev pub sections_text : Report → List ℕ
sections_text r = section_text First r.first ++ (section_text Second r.second ++ (section_text Third r.third ++ section_text Fourth r.fourth))

-- what stands between the station and the end: the sections, or NIL
unfoldable pub body : Report → List ℕ
body r = cond (is_nil r.first) (codes " NIL") (sections_text r)

-- the end of a report
abbrev pub end_mark : List ℕ
end_mark = codes "=\n"

-- the station in five digits, the sections or NIL, and the end
unfoldable pub written : Report → List ℕ
written r = digits 5 r.station ++ (body r ++ end_mark)
