-- The rows that the code's value holds. Assumes nothing.
use Rattle.std.specs.Prelude.{List}
use Rattle.model.specs.Rows as model
use Rattle.sheet.specs.Bridge.{rows_of}
use Rattle.sheet.specs.declared.Rows.{Rows}

abbrev pub rows_in : Rows → List model.Row
rows_in rs = rows_of rs.kind.now rs.one.now rs.two.now rs.count
