pub mod StepsMore
