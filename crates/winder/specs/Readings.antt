-- What is read off a drive after a tick.
use Rattle.drive.specs.declared.analog.Analog.{Analog}
use Rattle.drive.specs.Analog.{analog_values, output_state}
use Rattle.drive.specs.Output.{output_value}
use Rattle.drive.specs.Values.{Values}
use Rattle.winder.specs.declared.reading.Reading.{Reading}

-- what is read off the drive a, whose place and gap are read as those of v
abbrev pub reading : Values → Analog → Reading
reading v a = record { place = v.place; gap = v.gap; output = output_value (output_state a) (analog_values a).gap }
