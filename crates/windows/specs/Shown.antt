-- The matrix that a window shows.
use Rattle.algebra.specs.Matrix.{Matrix}
use Rattle.windows.specs.declared.window.Window.{Window}

abbrev pub shown : Window → Matrix
shown w = record { rows = w.rows; columns = w.columns; cells = w.cells.now }
