-- What is told of an image by its layout alone.
use Rattle.std.specs.declared.result.Result.{Result}
use Rattle.std.specs.declared.result.Result.TheVariants.{Ok, Err}
use Rattle.image.specs.declared.Breach.{Breach}
use Rattle.image.specs.declared.Layout.{Layout}
use Rattle.image.specs.declared.views.Image.{Image}

-- the layout of an image, or the breach that stands against it
abbrev pub laid : Result Image Breach → Result Layout Breach
laid (Ok image) = Ok image.layout
laid (Err b) = Err b
